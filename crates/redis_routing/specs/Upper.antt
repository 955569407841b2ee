-- Texts in ASCII upper case.
use Rattle.std.specs.Prelude.{ℕ, List, map}
use Rattle.std.specs.Char.{to_ascii_uppercase}

abbrev pub upper : List ℕ → List ℕ
upper text = map to_ascii_uppercase text

-- Numbers in text, as `u16::from_str` and `u64::from_str` read them.
use Rattle.std.specs.Prelude.{ℕ, ◌^◌, List, ◌&&◌, if◌then◌else◌, Option, None, Some, nat_lt, length}
use Rattle.std.specs.Str.{all_ascii_digits}
use Rattle.std.specs.Str.Parse.{without_leading_plus, digits_value}

-- the number below 2 ^ bits that a text writes: an optional plus, and one or more digits
unfoldable pub number_in : ℕ → List ℕ → Option ℕ
number_in bits text =
    if nat_lt 0 (length (without_leading_plus text))
    && (all_ascii_digits (without_leading_plus text)
    && nat_lt (digits_value 10 (without_leading_plus text)) (2 ^ bits))
    then Some (digits_value 10 (without_leading_plus text))
    else None

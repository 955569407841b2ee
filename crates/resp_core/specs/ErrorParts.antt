-- What a contract sees of an error.
use Rattle.std.specs.Prelude.{ℕ, Bool, List, Option, None, Some, ◌++◌, codes, nat_eq}
use Rattle.std.specs.Option.{option_eq}
use Rattle.std.specs.Ordering.{on, eq_of_both}
use Rattle.std.specs.Cmp.Lexicographic.{pointwise}
use Rattle.resp_core.specs.declared.error.ErrorKind.{ErrorKind}
use Rattle.resp_core.specs.declared.error.ErrorKind.TheVariants.{InvalidClientConfig, UnexpectedReturnType, Client, OutOfMemory}

-- the kind, the text, and the detail's bytes, if any
pub record ErrorParts : Type 0 where
  pub kind : ErrorKind
  pub desc : List ℕ
  pub detail : Option (List ℕ)

-- out of memory
abbrev pub out_of_memory : ErrorParts
out_of_memory = record { kind = OutOfMemory; desc = codes "out of memory"; detail = None }

-- what `Display` prints of an error: its text, and a colon and the detail, if there is one
abbrev pub error_text : ErrorParts → List ℕ
error_text e = e.desc ++ printed_detail e.detail
  where
    printed_detail : Option (List ℕ) → List ℕ
    printed_detail None = codes ""
    printed_detail (Some detail) = codes ": " ++ detail

-- the index of a kind among the four
abbrev pub kind_place : ErrorKind → ℕ
kind_place InvalidClientConfig = 0
kind_place UnexpectedReturnType = 1
kind_place Client = 2
kind_place OutOfMemory = 3

-- whether two errors have the same kind, text and detail
abbrev pub same_error : ErrorParts → ErrorParts → Bool
same_error =
    eq_of_both (on (λ e. kind_place e.kind) nat_eq)
    (eq_of_both (on (λ e. e.desc) (pointwise nat_eq))
    (on (λ e. e.detail) (option_eq (pointwise nat_eq))))

-- Replies that have more or fewer items than their part has keys.
use Rattle.std.specs.Prelude.{ℕ, ◌==◌, List, length, Option, Some, None, slice_get, if◌then◌else◌}
use Rattle.std.specs.List.{filter_map, zip}
use Rattle.resp_core.specs.Reply.{Reply, array_of}
use Rattle.resp_core.specs.declared.error.ErrorKind.{ErrorKind}
use Rattle.resp_core.specs.declared.error.ErrorKind.TheVariants.{UnexpectedReturnType, Client}

-- why a reply with these items, if it is an array, does not fit this count
abbrev pub misfit_of : Option (List Reply) → ℕ → Option ErrorKind
misfit_of None count = Some UnexpectedReturnType
misfit_of (Some items) count = if length items == count then None else Some Client

-- why a reply does not fit its count, if so: it is no array, or has another number of items
abbrev pub misfit : Reply × ℕ → Option ErrorKind
misfit pair = misfit_of (array_of pair.0) pair.1

-- why the first reply that does not fit its count is refused
abbrev pub first_misfit : List Reply → List ℕ → Option ErrorKind
first_misfit replies counts = slice_get (filter_map misfit (zip replies counts)) 0

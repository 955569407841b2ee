-- The arguments of a part, written one after the other.
use Rattle.std.proofs.Common.{◌≡◌, ℕ, ◌+◌, List, [], ◌∷◌, ◌++◌, Option, None, Some, length, length-append, map, option_map, append_assoc, append-nil, decimal, refl, sym, ap, ◌∙◌, arith}
use Rattle.std.proofs.lemmas.Grind.{common_steps}
use Rattle.std.specs.List.{flat_map, range_with_len}
use Rattle.std.specs.Prelude.{IfSome}
use Rattle.std.proofs.lemmas.List.{length-map}
use Rattle.std.proofs.lemmas.List.Concat.{flat_map-append}
use Rattle.std.proofs.lemmas.List.FromFn.{length-map-range_with_len}
use Rattle.std.proofs.lemmas.Option.{none-some, same_Some}
use Rattle.cluster_slots.specs.Lists.{all_some}
use Rattle.resp.specs.Forms.{bulk_form, line, request}
use Rattle.redis_combiners.proofs.Lists.{all_some_length}
use Rattle.redis_routing.specs.Command.{Arguments, argument}
use Rattle.redis_routing.specs.SubCommand.{sub_command_after}
use Rattle.redis_bytes.specs.Requests.{Words}

rest_of : (x : List ℕ) (o : Option Words) (all : Words) → option_map (λ xs. x ∷ xs) o ≡ Some all → (rest : Words) × (o ≡ Some rest) × (all ≡ x ∷ rest)
rest_of x None all e = absurd (none-some all e)
rest_of x (Some rest) all e = (rest, refl, sym (same_Some (x ∷ rest) all e))

-- those of two lists that are all there
parted : (first second : Arguments) (all : Words) → all_some (first ++ second) ≡ Some all → (a : Words) × (b : Words) × (all_some first ≡ Some a) × (all_some second ≡ Some b) × (all ≡ a ++ b)
parted [] second all e = ([], all, refl, e, refl)
parted (None ∷ first) second all e = absurd (none-some all e)
parted (Some x ∷ first) second all e =
    let r = rest_of x (all_some (first ++ second)) all e in
    let p = parted first second r.0 r.1 in
    (x ∷ p.0, p.1, ap (option_map (λ xs. x ∷ xs)) p.2, p.3, r.2 ∙ ap (λ xs. x ∷ xs) p.4)

-- the arguments were added as bulk strings, if they are all there
abbrev pub Adds : List ℕ → Arguments → List ℕ → Type 0
Adds old arguments new = (args : Words) → all_some arguments ≡ Some args → new ≡ old ++ flat_map bulk_form args

-- what was there stays in front
abbrev pub Keeps : List ℕ → List ℕ → Type 0
Keeps old new = (more : List ℕ) × (new ≡ old ++ more)

pub keeps_again : (old new more : List ℕ) → Keeps old new → Keeps new more → Keeps old more
keeps_again old new more first next = (first.0 ++ next.0, next.1 ∙ ap (λ (t : List ℕ). t ++ next.0) first.1 ∙ append_assoc old first.0 next.0)

-- one argument more, if it is there
pub adds_next : (old : List ℕ) (arguments : Arguments) (arg : Option (List ℕ)) (new more : List ℕ) → Adds old arguments new → IfSome arg (λ text. more ≡ new ++ bulk_form text) → Adds old (arguments ++ arg ∷ []) more
adds_next old arguments None new more so_far next args e = let p = parted arguments (None ∷ []) args e in absurd (none-some p.1 p.3)
adds_next old arguments (Some arg) new more so_far next args e =
    let p = parted arguments (Some arg ∷ []) args e in
    let all : args ≡ p.0 ++ arg ∷ [] = p.4 ∙ ap (λ b. p.0 ++ b) (sym (same_Some (arg ∷ []) p.1 p.3)) in
    let forms : flat_map bulk_form args ≡ flat_map bulk_form p.0 ++ bulk_form arg =
    ap (flat_map bulk_form) all ∙ flat_map-append bulk_form p.0 (arg ∷ []) ∙ ap (λ (t : List ℕ). flat_map bulk_form p.0 ++ t) (append-nil (bulk_form arg)) in
    next ∙ ap (λ (t : List ℕ). t ++ bulk_form arg) (so_far p.0 p.2) ∙ append_assoc old (flat_map bulk_form p.0) (bulk_form arg) ∙ ap (λ (t : List ℕ). old ++ t) (sym forms)

-- the first line, the words of the name and the arguments are a request
pub request_added : (words : ℕ) (command : Arguments) (indices : List ℕ) (old counted named new : List ℕ) → counted ≡ old ++ line 42 (decimal (words + length indices)) → Adds counted (map (argument command) (range_with_len 0 words)) named
    → Adds named (map (λ i. argument command (i + words)) indices) new → (part : Words) → sub_command_after words command indices ≡ Some part → new ≡ old ++ request part
request_added words command indices old counted named new count name arguments part e = grind (arith, common_steps, parted, length-append, all_some_length, length-map-range_with_len (argument command) 0 words, length-map, flat_map-append, append_assoc)

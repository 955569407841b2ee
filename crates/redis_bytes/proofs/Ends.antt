-- Texts one after another, and where each of them ends, with one more text.
use Rattle.std.proofs.Common.{◌≡◌, ℕ, ◌+◌, ◌<◌, zero, suc, List, [], ◌∷◌, ◌++◌, Some, length, map, option_map, take, get_or, slice_get, sym, ap, ◌∙◌, arith, append-nil, length-append}
use Rattle.std.proofs.lemmas.Grind.{common_steps}
use Rattle.std.specs.List.{flat_map}
use Rattle.std.proofs.lemmas.List.{map_more, map_push, take_more}
use Rattle.std.proofs.lemmas.List.Concat.{flat_map-append}
use Rattle.std.proofs.lemmas.Option.{none-some, same_Some}
use Rattle.resp_core.specs.ItemEnds.{item_ends}
use Rattle.resp.specs.Forms.{request}
use Rattle.redis_routing.specs.Command.{Arguments}
use Rattle.redis_bytes.specs.Requests.{AreWritten, Words}

ends_push : {X : Type 0} (f : X → List ℕ) (start : ℕ) (xs : List X) (x : X) → item_ends start (map f xs ++ f x ∷ []) ≡ item_ends start (map f xs) ++ (start + (length (flat_map f xs) + length (f x))) ∷ []
ends_push f start [] x = ap (λ (n : ℕ). (start + n) ∷ []) (omega arith)
ends_push f start (y ∷ ys) x = grind (arith, common_steps, ends_push f (start + length (f y)) ys x)

module _ {X : Type 0} (f : X → List ℕ) (xs : List X) (x : X) (ends bytes more : List ℕ) (are : bytes ≡ flat_map f xs) (next : more ≡ bytes ++ f x) where
  -- the bytes and the ends with one text more
  pub bytes_next : more ≡ flat_map f (xs ++ x ∷ [])
  bytes_next =
      next ∙ ap (λ (t : List ℕ). t ++ f x) are ∙ ap (λ (t : List ℕ). flat_map f xs ++ t) (sym (append-nil (f x))) ∙ sym (flat_map-append f xs (x ∷ []))

  pub ends_next : ends ≡ item_ends 0 (map f xs) → ends ++ length more ∷ [] ≡ item_ends 0 (map f (xs ++ x ∷ []))
  ends_next so_far = grind (arith, common_steps, length-append, map_push, ends_push)

-- what a loop over the texts keeps
pub more_bytes : {X : Type 0} (f : X → List ℕ) (xs : List X) (i : ℕ) (x : X) (bytes more : List ℕ) → i < length xs → x ≡ get_or xs i x
    → bytes ≡ flat_map f (take i xs) → more ≡ bytes ++ f x → more ≡ flat_map f (take (i + 1) xs)
more_bytes f xs i x bytes more lt is so_far next =
    bytes_next f (take i xs) x [] bytes more so_far next ∙ ap (flat_map f) (sym (take_more xs i x lt ∙ ap (λ y. take i xs ++ y ∷ []) (sym is)))

pub more_ends : {X : Type 0} (f : X → List ℕ) (xs : List X) (i : ℕ) (x : X) (ends bytes more : List ℕ) → i < length xs → x ≡ get_or xs i x
    → ends ≡ item_ends 0 (map f (take i xs)) → bytes ≡ flat_map f (take i xs) → more ≡ bytes ++ f x
    → ends ++ length more ∷ [] ≡ item_ends 0 (map f (take (i + 1) xs))
more_ends f xs i x ends bytes more lt is so_far are next =
    ends_next f (take i xs) x ends bytes more are next so_far ∙ ap (λ ys. item_ends 0 (map f ys)) (sym (take_more xs i x lt ∙ ap (λ y. take i xs ++ y ∷ []) (sym is)))

-- one request more
pub written_more : (arguments : List Arguments) (ends bytes more : List ℕ) (words : Words) → AreWritten arguments ends bytes → more ≡ bytes ++ request words
    → AreWritten (arguments ++ map Some words ∷ []) (ends ++ length more ∷ []) more
written_more arguments ends bytes more words are next = grind (arith, common_steps, map_push (map Some) are.commands words, ends_next request are.commands words ends bytes more are.bytes_are next are.ends_are, bytes_next request are.commands words ends bytes more are.bytes_are next)

-- what is found by a slot is that of the slot of this number
pub at_slot : {X P : Type 0} (slot : X → ℕ) (part_of : ℕ → P) (xs : List X) (n : ℕ) (part : P) →
    Some part ≡ option_map (λ x. part_of (slot x)) (slice_get xs n) → (n < length (map slot xs)) × (part ≡ part_of (get_or (map slot xs) n 0))
at_slot slot part_of [] n part e = absurd (none-some part (sym e))
at_slot slot part_of (x ∷ xs) zero part e = (omega arith, same_Some part (part_of (slot x)) e)
at_slot slot part_of (x ∷ xs) (suc n) part e = let later = at_slot slot part_of xs n part e in (omega arith, later.1)

-- the parts of the first slots, with the next
pub parts_more : (part_of : ℕ → Arguments) (slots : List ℕ) (n : ℕ) (part : Words) → (n < length slots) × (map Some part ≡ part_of (get_or slots n 0))
    → map part_of (take n slots) ++ map Some part ∷ [] ≡ map part_of (take (n + 1) slots)
parts_more part_of slots n part next = ap (λ p. map part_of (take n slots) ++ p ∷ []) next.1 ∙ sym (map_more part_of slots n 0 next.0)

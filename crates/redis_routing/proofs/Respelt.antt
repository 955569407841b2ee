-- A command whose first word is spelt in another case goes where it went.
use Rattle.std.proofs.Common.{◌≡◌, ℕ, zero, suc, ◌+◌, List, [], ◌∷◌, Bool, true, Option, None, Some, map, option_map, refl, sym, ap, ◌∙◌, add-one, arith}
use Rattle.std.specs.Prelude.{codes, position, nat_lt}
use Rattle.std.specs.Char.{to_ascii_lowercase}
use Rattle.std.specs.Str.{bytes_eq}
use Rattle.std.proofs.lemmas.Str.Ascii.{lowercase-uppercase}
use Rattle.redis_routing.specs.Upper.{upper}
use Rattle.redis_routing.specs.Command.{Arguments, IsRespelt, argument, is_word}
use Rattle.redis_routing.specs.Lookup.{lookup_name}
use Rattle.redis_routing.specs.Names.{Names}
use Rattle.redis_routing.specs.PresentArguments.{present_arguments}
use Rattle.redis_routing.specs.Registry.{Registered, Registrations, routing_or, tables_with}
use Rattle.redis_routing.specs.TwoWords.{takes_second}
use Rattle.redis_routing.specs.declared.policy.ResponsePolicy.{ResponsePolicy}
use Rattle.resp_core.proofs.Cases.{by_test}
use Rattle.redis_routing.specs.Routing.{routing_by, to_slots, by_count, to_key, to_key_after, to_slot, routing, argument_number}
use Rattle.redis_routing.specs.RouteBy.{base_routings, base_routing}
use Rattle.redis_routing.specs.declared.route_by.RouteBy.{RouteBy}
use Rattle.redis_routing.specs.declared.route_by.RouteBy.TheVariants as route_by
use Rattle.redis_routing.proofs.Rows.{each_row}

-- whether the key and its count stand after the first word
abbrev behind_first : Option RouteBy → Bool
behind_first (Some (route_by.CountAt n)) = nat_lt 0 n
behind_first (Some (route_by.KeyAt n)) = nat_lt 0 n
behind_first (Some (route_by.SlotAt n)) = nat_lt 0 n
behind_first _ = true

table_behind_first : (name : List ℕ) → behind_first (base_routing name) ≡ true
unfolding base_routing
table_behind_first name = each_row (λ n w. behind_first w) (λ n. refl) base_routings refl name

-- that of a registered name is split by slot
or_behind_first : (w : Option RouteBy) (registered : Option Registered) → behind_first w ≡ true → behind_first (routing_or w registered) ≡ true
or_behind_first w registered h1 = grind (arith)

each_behind_first : (registered : Registrations) (name : List ℕ) → behind_first ((tables_with registered).route_by name) ≡ true
each_behind_first registered name = or_behind_first (base_routing name) (lookup_name registered name) (table_behind_first name)

abbrev lower : List ℕ → List ℕ
lower text = map to_ascii_lowercase text

lower-upper : (text : List ℕ) → lower (upper text) ≡ lower text
lower-upper [] = refl
lower-upper (c ∷ text) = cc (lowercase-uppercase c, lower-upper text)

module _ (spelt first : List ℕ) (same : upper spelt ≡ upper first) (rest : Arguments) where
  abbrev original : Arguments
  original = Some first ∷ rest

  abbrev other_spelling : Arguments
  other_spelling = Some spelt ∷ rest

  next : (n : ℕ) → argument original (n + 1) ≡ argument other_spelling (n + 1)
  next n = rw add-one refl

  behind : (n : ℕ) → nat_lt 0 n ≡ true → argument original n ≡ argument other_spelling n
  behind zero h = cc h
  behind (suc n) h = refl

  same_word : (word : List ℕ) → is_word word (Some first) ≡ is_word word (Some spelt)
  same_word word = ap (λ t. bytes_eq t (lower word)) (sym (lower-upper first) ∙ sym (ap lower same) ∙ lower-upper spelt)

  same_position : (word : List ℕ) → position (is_word word) original ≡ position (is_word word) other_spelling
  same_position word = rw (same_word word) refl

  after_streams : (reads : Bool) (place : Option ℕ) → to_key_after reads original place ≡ to_key_after reads other_spelling place
  after_streams reads None = refl
  after_streams reads (Some place) = ap (to_key reads) (next place)

  same_present : present_arguments original ≡ present_arguments other_spelling
  same_present = by_second rest
    where
      by_second : (rest : Arguments) → present_arguments (Some first ∷ rest) ≡ present_arguments (Some spelt ∷ rest)
      by_second [] = refl
      by_second (None ∷ rest) = refl
      by_second (Some second ∷ rest) =
          by_test (takes_second (upper first))
          (λ takes. rw (same, takes) refl)
          (λ alone. rw (same, alone) refl)

  same_route_by : (policy : Option ResponsePolicy) (reads : Bool) (w : Option RouteBy) → behind_first w ≡ true → routing_by policy reads original w ≡ routing_by policy reads other_spelling w
  same_route_by policy reads None later = refl
  same_route_by policy reads (Some route_by.AllNodes) later = refl
  same_route_by policy reads (Some route_by.AllMasters) later = refl
  same_route_by policy reads (Some (route_by.MultiSlot pattern)) later = ap (to_slots reads policy pattern) same_present
  same_route_by policy reads (Some route_by.Undefined) later = refl
  same_route_by policy reads (Some (route_by.CountAt n)) later = ap (λ a. by_count reads (argument_number 64 a) (argument original (n + 1))) (behind n later) ∙ ap (by_count reads (argument_number 64 (argument other_spelling n))) (next n)
  same_route_by policy reads (Some (route_by.KeyAt n)) later = ap (to_key reads) (behind n later)
  same_route_by policy reads (Some route_by.KeyAfterStreams) later = after_streams reads (position (is_word (codes "STREAMS")) original) ∙ ap (to_key_after reads other_spelling) (same_position (codes "STREAMS"))
  same_route_by policy reads (Some route_by.Random) later = refl
  same_route_by policy reads (Some (route_by.SlotAt n)) later = ap (λ a. to_slot (argument_number 16 a)) (behind n later)

  same_routing : (names : Names) → routing names original ≡ routing names other_spelling
  same_routing names = grind (arith, option_map, same_route_by, each_behind_first)

pub respelt_routing : (names : Names) (args other : Arguments) → IsRespelt args other → routing names other ≡ routing names args
respelt_routing names [] other same = ap (routing names) same
respelt_routing names (None ∷ rest) other same = ap (routing names) same
respelt_routing names (Some first ∷ rest) other (spelt, same, is) = ap (routing names) is ∙ sym (same_routing spelt first same rest names)

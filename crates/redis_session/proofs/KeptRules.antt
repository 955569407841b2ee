-- The rules of calls, after one is added or forgotten.
use Rattle.std.proofs.Common.{◌≡◌, ◌∙◌, ℕ, [], ◌∷◌, Bool, true, false, Option, None, Some, refl, sym, ap, arith}
use Rattle.std.specs.Prelude.{is_some}
use Rattle.std.specs.BTreeMap.{BTreeMap, UpdatesBy, insert_entry, is_at}
use Rattle.std.specs.Map.{lookup}
use Rattle.std.specs.Ordering.{is_eq, nat_cmp}
use Rattle.std.proofs.lemmas.Bool.Decides.{nat_tests}
use Rattle.redis_routing.proofs.NameSets.{by_order}
use Rattle.redis_session.specs.Rules.{KeepOthers, KeptRules, rule_in, rule_or_one, without}
use Rattle.redis_session.specs.declared.rules.ReplyRule.{ReplyRule}
use Rattle.redis_session.proofs.NodeTables.{other_number}

pub rule_added : (call : ℕ) (rule : ReplyRule) (old new : BTreeMap ℕ ReplyRule) → UpdatesBy nat_cmp (nat_cmp call) old new (Some rule) → rule_in new.entries call ≡ rule
rule_added call rule old new updates = ap rule_or_one updates.1

pub others_keep : (call : ℕ) (rule : Option ReplyRule) (old new : BTreeMap ℕ ReplyRule) → UpdatesBy nat_cmp (nat_cmp call) old new rule → KeepOthers call old.entries new.entries
others_keep call rule old new updates other ne = ap rule_or_one (updates.2 other (other_number call other ne))

own_number : (call : ℕ) → is_at (nat_cmp call) call ≡ true
own_number call = grind (arith, nat_tests)

past : (call : ℕ) (row : ℕ × ReplyRule) (kept : KeptRules) → is_at (nat_cmp call) row.0 ≡ false → lookup (is_at (nat_cmp call)) (row ∷ kept) ≡ None → lookup (is_at (nat_cmp call)) kept ≡ None
past call row kept other none =
    let step : lookup (is_at (nat_cmp call)) (row ∷ kept) ≡ lookup (is_at (nat_cmp call)) kept = rw other refl in
    sym step ∙ none

-- To forget what is added leads back.
pub added_back : (call : ℕ) (rule : ReplyRule) (kept : KeptRules) → lookup (is_at (nat_cmp call)) kept ≡ None → without call (insert_entry nat_cmp kept call rule) ≡ kept
added_back call rule [] none = rw (own_number call) refl
added_back call rule (row ∷ kept) none = by_order (nat_cmp call row.0)
    (λ less. rw less (rw (own_number call) refl))
    (λ equal. absurd (cc (none, equal)))
    (λ greater. let other : is_at (nat_cmp call) row.0 ≡ false = ap is_eq greater in
    rw greater (rw other (ap (λ rest. row ∷ rest) (added_back call rule kept (past call row kept other none)))))

-- Nothing is kept of a call without a rule of its own.
pub none_back : (call : ℕ) (kept : KeptRules) → lookup (is_at (nat_cmp call)) kept ≡ None → without call kept ≡ kept
none_back call [] none = refl
none_back call (row ∷ kept) none = by_order (nat_cmp call row.0)
    (λ less. rw less (ap (λ rest. row ∷ rest) (none_back call kept (past call row kept (ap is_eq less) none))))
    (λ equal. absurd (cc (none, equal)))
    (λ greater. rw greater (ap (λ rest. row ∷ rest) (none_back call kept (past call row kept (ap is_eq greater) none))))

pub not_kept : {X : Type 0} (found : Option X) (is : Bool) → is ≡ is_some found → is ≡ false → found ≡ None
not_kept None is same not = refl
not_kept (Some x) is same not = absurd (cc (same, not))

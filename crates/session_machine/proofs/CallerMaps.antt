-- What is kept of each caller after the entry of one of them changed.
use Rattle.std.proofs.Common.{inl, inr, [], ◌≡◌, ◌≢◌, ℕ, Result, Ok, Err, OnErr, Option, None, Some, refl, sym, ap, ◌∙◌, subst}
use Rattle.std.specs.Option.{unwrap_or, option_map, IsSome}
use Rattle.std.proofs.lemmas.Bool.{cases_eq}
use Rattle.session_core.specs.declared.ordered_part.OrderedPart.{OrderedPart}
use Rattle.session_core.specs.Order.{Order, no_order, ordered_at, IsTrimmed}
use Rattle.session_core.proofs.Places.{none_at}
use Rattle.session_machine.specs.declared.caller.Caller.{Caller}
use Rattle.session_machine.specs.declared.callers.Callers.{Callers}
use Rattle.session_machine.specs.declared.caller_table.CallerTable.{CallerTable}
use Rattle.session_machine.specs.CallerTable.{kept_in, KeepsAll, IsPut}
use Rattle.session_machine.specs.Caller.{no_calls, KeepsCalls}
use Rattle.session_machine.specs.Ties.{is_owed}
use Rattle.session_machine.specs.Callers.{caller_of, order_of, owed_of, last_of, OthersKept, OnlyOrder, OnlyOwed, CallsKept, IsForgotten}

order_is : (caller : ℕ) (callers : Callers) → order_of caller callers ≡ (caller_of caller callers).order
unfolding order_of
order_is caller callers = refl

owed_is : (caller : ℕ) (callers : Callers) → owed_of caller callers ≡ (caller_of caller callers).owed
unfolding owed_of
owed_is caller callers = refl

last_is : (caller : ℕ) (callers : Callers) → last_of caller callers ≡ option_map (λ (c : Caller). c.last) (kept_in caller callers.callers)
unfolding last_of
last_is caller callers = refl

pub last_by : (caller : ℕ) (callers : Callers) (o : Option Caller) → o ≡ kept_in caller callers.callers → last_of caller callers ≡ option_map (λ (c : Caller). c.last) o
last_by caller callers o e = last_is caller callers ∙ ap (option_map (λ (c : Caller). c.last)) (sym e)

pub order_by : (caller : ℕ) (callers : Callers) (x : Caller) → caller_of caller callers ≡ x → order_of caller callers ≡ x.order
order_by caller callers x e = order_is caller callers ∙ ap (λ (c : Caller). c.order) e

pub owed_by : (caller : ℕ) (callers : Callers) (x : Caller) → caller_of caller callers ≡ x → owed_of caller callers ≡ x.owed
owed_by caller callers x e = owed_is caller callers ∙ ap (λ (c : Caller). c.owed) e

-- a caller that is kept, or is not
pub there : (caller : ℕ) (callers : Callers) (x : Caller) → Some x ≡ kept_in caller callers.callers → caller_of caller callers ≡ x
there caller callers x e = ap (λ (o : Option Caller). unwrap_or o no_calls) (sym e)

pub missing : (caller : ℕ) (callers : Callers) → None ≡ kept_in caller callers.callers → caller_of caller callers ≡ no_calls
missing caller callers e = ap (λ (o : Option Caller). unwrap_or o no_calls) (sym e)

pub unknown : (caller : ℕ) (callers : Callers) → kept_in caller callers.callers ≡ None → last_of caller callers ≡ None
unknown caller callers e = last_is caller callers ∙ ap (option_map (λ (c : Caller). c.last)) e

-- no part stands in an order without parts
nothing_at : (place : ℕ) (order : Order) → order ≡ no_order → ordered_at place order ≡ None
nothing_at place order e = ap (ordered_at place) e ∙ none_at {X = OrderedPart} place 0 [] refl

pub none_there : (place : ℕ) (order : Order) (p : OrderedPart) → order ≡ no_order → ordered_at place order ≡ Some p → ⊥
none_there place order p e at = let n = nothing_at place order e in let q : ◌≡◌ {A = Option OrderedPart} None (Some p) = sym n ∙ at in cc

pub no_front : (order : Order) → order ≡ no_order → IsTrimmed order
no_front order e = λ p at. absurd (none_there order.first order p e at)

pub same_order : (caller : ℕ) (old new : Callers) → caller_of caller new ≡ caller_of caller old → order_of caller new ≡ order_of caller old
same_order caller old new e = order_by caller new (caller_of caller old) e ∙ sym (order_is caller old)

pub same_owed : (caller : ℕ) (old new : Callers) → caller_of caller new ≡ caller_of caller old → owed_of caller new ≡ owed_of caller old
same_owed caller old new e = owed_by caller new (caller_of caller old) e ∙ sym (owed_is caller old)

-- another entry is kept of one caller, or none
pub others_kept : (caller : ℕ) (w : Option Caller) (old new : Callers) → IsPut caller w old.callers new.callers → OthersKept caller old new
others_kept caller w old new u =
    let same : (other : ℕ) → other ≢ caller → caller_of other new ≡ caller_of other old = λ other ne. ap (λ (o : Option Caller). unwrap_or o no_calls) (u.1 other ne) in
    record {
      order = λ other ne. same_order other old new (same other ne);
      owed = λ other ne. same_owed other old new (same other ne);
      last = λ other ne. last_by other new (kept_in other old.callers) (sym (u.1 other ne)) ∙ sym (last_is other old);
    }

pub now_is : (caller : ℕ) (w : Option Caller) (old new : Callers) → IsPut caller w old.callers new.callers → caller_of caller new ≡ unwrap_or w no_calls
now_is caller w old new u = ap (λ (o : Option Caller). unwrap_or o no_calls) u.0

-- the caller was `was`, and is `now`
pub record Written (caller : ℕ) (was now : Caller) (old new : Callers) : Type 0 where
  pub was_order : order_of caller old ≡ was.order
  pub was_owed : owed_of caller old ≡ was.owed
  pub order : order_of caller new ≡ now.order
  pub owed : owed_of caller new ≡ now.owed
  pub last : last_of caller new ≡ Some now.last
  pub others : OthersKept caller old new

pub written : (caller : ℕ) (was now : Caller) (old new : Callers) → caller_of caller old ≡ was → IsPut caller (Some now) old.callers new.callers → Written caller was now old new
written caller was now old new e u = record {
  was_order = order_by caller old was e;
  was_owed = owed_by caller old was e;
  order = order_by caller new now (now_is caller (Some now) old new u);
  owed = owed_by caller new now (now_is caller (Some now) old new u);
  last = last_by caller new (Some now) (sym u.0);
  others = others_kept caller (Some now) old new u;
}

-- what a write to an entry that was lent makes of the callers
abbrev pub Wrote : (caller : ℕ) → (now : Caller) → (old new : CallerTable) → Type 0
Wrote caller now old new = IsSome (kept_in caller old) → IsPut caller (Some now) old new

pub lent : (caller : ℕ) (old : Callers) (new : CallerTable) (was now : Caller) → Some was ≡ kept_in caller old.callers → Wrote caller now old.callers new → Written caller was now old (record old { callers = new })
lent caller old new was now e h = written caller was now old (record old { callers = new }) (there caller old was e) (h (subst IsSome e refl))

lent_last : (caller : ℕ) (old : Callers) (new : CallerTable) (was now : Caller) → Some was ≡ kept_in caller old.callers → Wrote caller now old.callers new → now.last ≡ was.last
    → (other : ℕ) → last_of other (record old { callers = new }) ≡ last_of other old
lent_last caller old new was now e h last = λ other.
    let w = lent caller old new was now e h in
    elim (cases_eq other caller) [
      | inl same ↦ subst (λ (n : ℕ). last_of n (record old { callers = new }) ≡ last_of n old) (sym same) (w.last ∙ ap Some last ∙ sym (last_by caller old (Some was) e))
      | inr ne ↦ w.others.last other ne
    ]

-- the order of the entry changed
pub lent_order : (caller : ℕ) (old : Callers) (new : CallerTable) (was now : Caller) → Some was ≡ kept_in caller old.callers → Wrote caller now old.callers new → now.owed ≡ was.owed → now.last ≡ was.last
    → OnlyOrder caller old (record old { callers = new })
lent_order caller old new was now e h owed last =
    let w = lent caller old new was now e h in
    record {
      order = w.others.order;
      owed = λ other. elim (cases_eq other caller) [
        | inl same ↦ subst (λ (n : ℕ). owed_of n (record old { callers = new }) ≡ owed_of n old) (sym same) (w.owed ∙ owed ∙ sym w.was_owed)
        | inr ne ↦ w.others.owed other ne
      ];
      last = lent_last caller old new was now e h last;
    }

-- what replies it is owed changed
pub lent_owed : (caller : ℕ) (old : Callers) (new : CallerTable) (was now : Caller) → Some was ≡ kept_in caller old.callers → Wrote caller now old.callers new → now.order ≡ was.order → now.last ≡ was.last
    → OnlyOwed caller old (record old { callers = new })
lent_owed caller old new was now e h order last =
    let w = lent caller old new was now e h in
    record {
      order = λ other. elim (cases_eq other caller) [
        | inl same ↦ subst (λ (n : ℕ). order_of n (record old { callers = new }) ≡ order_of n old) (sym same) (w.order ∙ order ∙ sym w.was_order)
        | inr ne ↦ w.others.order other ne
      ];
      owed = w.others.owed;
      last = lent_last caller old new was now e h last;
    }

-- the same callers are kept
pub same_callers : (caller : ℕ) (old new : Callers) → KeepsAll old.callers new.callers → caller_of caller new ≡ caller_of caller old
same_callers caller old new e = ap (λ (o : Option Caller). unwrap_or o no_calls) (e caller)

pub same_lasts : (caller : ℕ) (old new : Callers) → KeepsAll old.callers new.callers → last_of caller new ≡ last_of caller old
same_lasts caller old new e = last_is caller new ∙ ap (option_map (λ (c : Caller). c.last)) (e caller) ∙ sym (last_is caller old)

pub only_same : (caller : ℕ) (old new : Callers) → KeepsAll old.callers new.callers → OnlyOrder caller old new
only_same caller old new e = record {
  order = λ other ne. same_order other old new (same_callers other old new e);
  owed = λ other. same_owed other old new (same_callers other old new e);
  last = λ other. same_lasts other old new e;
}

pub only_twice : (caller : ℕ) (old mid new : Callers) → OnlyOrder caller old mid → OnlyOrder caller mid new → OnlyOrder caller old new
only_twice caller old mid new one two = record {
  order = λ other ne. two.order other ne ∙ one.order other ne;
  owed = λ other. two.owed other ∙ one.owed other;
  last = λ other. two.last other ∙ one.last other;
}

-- ---- a call that did not begin

each_kept : (caller : ℕ) (was now : Caller) (old new : Callers) → last_of caller old ≡ Some was.last → Written caller was now old new → KeepsCalls was now → CallsKept old new
each_kept caller was now old new was_last w k = record {
  order = λ other. elim (cases_eq other caller) [
    | inl e ↦ subst (λ (n : ℕ). order_of n new ≡ order_of n old) (sym e) (w.order ∙ k.order ∙ sym w.was_order)
    | inr ne ↦ w.others.order other ne
  ];
  owed = λ other call. elim (cases_eq other caller) [
    | inl e ↦ subst (λ (n : ℕ). is_owed call (owed_of n new) ≡ is_owed call (owed_of n old)) (sym e) (ap (is_owed call) w.owed ∙ k.owed call ∙ sym (ap (is_owed call) w.was_owed))
    | inr ne ↦ ap (is_owed call) (w.others.owed other ne)
  ];
  last = λ other. elim (cases_eq other caller) [
    | inl e ↦ subst (λ (n : ℕ). last_of n new ≡ last_of n old) (sym e) (w.last ∙ ap Some k.last ∙ sym was_last)
    | inr ne ↦ w.others.last other ne
  ];
}

pub err_kept : {T E : Type 0} (caller : ℕ) (was now : Caller) (old new : Callers) (result : Result T E) → last_of caller old ≡ Some was.last → Written caller was now old new → OnErr result (KeepsCalls was now) → OnErr result (CallsKept old new)
err_kept caller was now old new (Ok x) was_last w k = tt
err_kept caller was now old new (Err x) was_last w k = each_kept caller was now old new was_last w k

pub others_same : (caller : ℕ) (old new : Callers) → KeepsAll old.callers new.callers → OthersKept caller old new
others_same caller old new e = record {
  order = λ other ne. same_order other old new (same_callers other old new e);
  owed = λ other ne. same_owed other old new (same_callers other old new e);
  last = λ other ne. same_lasts other old new e;
}

pub err_same : {T E : Type 0} (old new : Callers) (result : Result T E) → KeepsAll old.callers new.callers → OnErr result (CallsKept old new)
err_same old new (Ok x) e = tt
err_same old new (Err x) e = record {
  order = λ other. same_order other old new (same_callers other old new e);
  owed = λ other call. ap (is_owed call) (same_owed other old new (same_callers other old new e));
  last = λ other. same_lasts other old new e;
}

-- what holds after the same callers are kept
pub others_after : (caller : ℕ) (old mid new : Callers) → KeepsAll old.callers mid.callers → OthersKept caller mid new → OthersKept caller old new
others_after caller old mid new e o = record {
  order = λ other ne. o.order other ne ∙ same_order other old mid (same_callers other old mid e);
  owed = λ other ne. o.owed other ne ∙ same_owed other old mid (same_callers other old mid e);
  last = λ other ne. o.last other ne ∙ same_lasts other old mid e;
}

pub kept_after : {T E : Type 0} (old mid new : Callers) (result : Result T E) → KeepsAll old.callers mid.callers → OnErr result (CallsKept mid new) → OnErr result (CallsKept old new)
kept_after old mid new (Ok x) e k = tt
kept_after old mid new (Err x) e k = record {
  order = λ caller. k.order caller ∙ same_order caller old mid (same_callers caller old mid e);
  owed = λ caller call. k.owed caller call ∙ ap (is_owed call) (same_owed caller old mid (same_callers caller old mid e));
  last = λ caller. k.last caller ∙ same_lasts caller old mid e;
}

-- ---- a caller is forgotten

pub forgotten : (caller : ℕ) (old new : Callers) → IsPut caller None old.callers new.callers → IsForgotten caller old new
forgotten caller old new u = record {
  order = order_by caller new no_calls (now_is caller None old new u);
  owed = owed_by caller new no_calls (now_is caller None old new u);
  last = last_by caller new None (sym u.0);
  others = others_kept caller None old new u;
}

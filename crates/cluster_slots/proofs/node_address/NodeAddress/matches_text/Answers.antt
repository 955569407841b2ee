use Rattle.std.proofs.Common.{rules, ◌≡◌, ◌≢◌, ◌∙◌, sym, true, false, ℕ, List, nat_eq, subst}
use Rattle.std.specs.Cmp.{nat_eq_equiv}
use Rattle.std.specs.Cmp.Lexicographic.{lists_equiv, pointwise}
use Rattle.cluster_slots.proofs.AddressTexts.{names_port, one_address}
use Rattle.cluster_slots.proofs.node_address.NodeAddress.matches_text.Goals as goal

pub returns-then-eq : goal.returns-then-eq
returns-then-eq c =
    let same : c.in-Some.host.now ≡ c.host.result.now = search (rules, c.if-eq.ensures) in
    rw c.port.ensures
    (names_port c.args.text.now c.in-Some.host.now c.args.self.now.host c.in-Some.port c.args.self.now.port c.in-Some.ensures (same ∙ c.host.ensures))

-- texts that `==` tells apart are not one
differ : (xs ys : List ℕ) → pointwise nat_eq xs ys ≡ false → xs ≢ ys
differ xs ys h e =
    let same : pointwise nat_eq xs xs ≡ true = (lists_equiv nat_eq_equiv).refl xs in
    let P : List ℕ → Type 0 = λ z. pointwise nat_eq xs z ≡ true in
    let other : pointwise nat_eq xs ys ≡ true = subst P e same in
    cc

pub returns-else-eq : goal.returns-else-eq
returns-else-eq c =
    let no : c.in-Some.host.now ≢ c.host.result.now = differ c.in-Some.host.now c.host.result.now (sym c.eq.ensures ∙ c.if-eq.false) in (
      (λ t. let not : c.eq.result ≡ false = c.if-eq.false in cc),
      (λ a. absurd (no ((one_address c.args.text.now c.in-Some.host.now c.args.self.now.host c.in-Some.port c.args.self.now.port c.in-Some.ensures a).0 ∙ sym c.host.ensures))),
    )

pub returns-in-None : goal.returns-in-None
returns-in-None c = ((λ t. cc), (λ a. absurd (c.in-None.ensures c.args.self.now.host c.args.self.now.port a)))

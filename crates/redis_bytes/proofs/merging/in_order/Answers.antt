use Rattle.std.proofs.Common.{◌≡◌, ◌++◌, ◌∷◌, [], ℕ, List, Bor, length, map, take, drop, get_or, true, eqb, refl, sym, ap, subst, ◌∙◌, arith, decimal}
use Rattle.std.specs.Cmp.Lexicographic.{pointwise}
use Rattle.std.proofs.lemmas.Bool.{not-false}
use Rattle.std.proofs.lemmas.Bool.Decides.{Decides-eqb}
use Rattle.std.proofs.lemmas.Slice.Eq.{slice_eq-Decides}
use Rattle.std.proofs.lemmas.List.{take_all, take_more}
use Rattle.resp_core.specs.Reply.{replies_of}
use Rattle.resp.specs.Forms.{forms, line}
use Rattle.resp.proofs.ArrayItems.{array_is}
use Rattle.redis_bytes.specs.Merged.{IsNext}
use Rattle.redis_bytes.proofs.Taking.{Left, all_taken, bytes_more, left_more, text_is, value, whole_back}
use Rattle.redis_bytes.proofs.merging.in_order.Goals as goal

pub loop-place-preserved : goal.loop-place-preserved
loop-place-preserved c = λ read are.
    let texts = map (λ (item : Bor (List ℕ)). item.now) c.args.items.now in
    let ends = c.args.ends.now in
    let old = c.loop-place.nexts.items in
    let new = c.next_item.new.nexts in
    let places = c.args.places.now in
    let i = c.loop-place.place-index in
    let place = get_or places i 0 in
    let text = c.in-Some.item.now in
    let l = c.loop-place.invariant read are in
    let next : IsNext texts old new ends place text = subst (λ (xs : List ℕ). IsNext texts xs new ends place text) c.deref_mut.ensures.value c.in-Some.ensures in
    let item = value read texts are old new ends place text next in
    let taken = left_more read texts are old new ends place text next c.args.nexts.items (take i places) l.values l.left in
    let back = whole_back c.loop-place.nexts.len new old (omega (arith, c.next_item.auto.nexts, ap length c.deref_mut.ensures.value)) c.loop-place.nexts.ok.0 in
    record {
      values = l.values ++ item ∷ [];
      left = subst (λ ps. Left read c.args.nexts.items (take c.loop-place.nexts.len (new ++ drop (length new) old)) ends ps (l.values ++ item ∷ [])) (sym (take_more places i 0 c.loop-place-test.true))
          (subst (λ xs. Left read c.args.nexts.items xs ends (take i places ++ place ∷ []) (l.values ++ item ∷ [])) (sym back) taken);
      written = bytes_more l.values item (line 42 (decimal (length places))) c.loop-place.out.items c.extend_from_slice.new.self.items text l.written c.in_ok-extend_from_slice.ensures.items (text_is read texts are old new ends place text next);
    }

pub returns : goal.returns
returns c = λ read are.
    let places = c.args.places.now in
    let l = c.loop-place.invariant read are in
    let xs = c.as_slice.result.now in
    let equal : pointwise eqb xs c.args.ends.now ≡ true = not-false (pointwise eqb xs c.args.ends.now) (sym c.ne.ensures ∙ c.if-ne.false) in
    let same : c.loop-place.nexts.items ≡ c.args.ends.now = sym c.as_slice.ensures.value ∙ (slice_eq-Decides Decides-eqb xs c.args.ends.now (pointwise eqb xs c.args.ends.now) refl).0 equal in
    let left = subst (λ ps. Left read c.args.nexts.items c.loop-place.nexts.items c.args.ends.now ps l.values) (take_all c.loop-place.place-index places c.loop-place-test.false) l.left in
    let taken = all_taken read c.args.nexts.items c.loop-place.nexts.items c.args.ends.now places l.values same left in
    (l.values, taken, l.written ∙ sym (ap (λ n. line 42 (decimal n) ++ forms (replies_of l.values)) taken.each) ∙ sym (array_is l.values))

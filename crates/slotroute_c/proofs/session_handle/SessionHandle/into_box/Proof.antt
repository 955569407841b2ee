-- `into_box` makes a box of the pointer that the handle has.
use mathlib.Core.Path.{◌≡◌, refl, sym, ap, subst}
use mathlib.Core.List.{List, [], ◌∷◌, ◌++◌}
use lib.Dec.{T}
use base.Fraction.{full_share}
use base.Logic.{SProp, emp, id⊢}
use base.Fml.{ftrue, fsep, flft}
use contract.BorrowLft.{◌⊑◌}
use contract.Monad.{Fun, fact, fact_i}
use contract.Running.{Running, tables}
use prog.Memory.{Memory}
use prog.Model.{Model}
use prog.Routine.{Routine}
use prog.Wired.{Wired}
use prog.Wp.{WpFn}
use seplogic.Ra.Ura.{Ura}
use types.Logic.{Logic}
use mir.Val.{Val, vptr, has_ty, WT}
use types.Kit.{‵, raw, prop, ◌⊛◌, some, later, at_ret, ◌$◌, ◌∵◌, !, qed, move, use0, use1, drop, split, split3, join, fsplit, fjoin, feq_i, pick, await, rewrite, regoal, suffices, done}
use types.Part.{whole, sub}
use types.Run.{enter, of_opd, stop, fld, no_more, and_then, first, blocks, exec, returns}
use types.ByLocal.{alloc_all, pass_all, free_all, look_at, get, get_in, sets, lands_last, env}
use types.Tokens.{lft_new}
use denote.Exit.{yes}
use denote.Param.NoDrop.{glues}
use denote.RawPtr.{block_ptr}
use denote.Signature.{plain}
use denote.Steps.{nothing, heard, only}
use denote.Triple.Call.{calls_at_last}
use denote.Triple.Spec.{triple_of}
use denote.Triple.Statement.{Contract, Triple}
use denote.Triple.Table.{framed}
use denote.Triple.Walked.{Stays, walk_of, says, stay_dropped, Goes-dropped, ends_at}
use Rattle.std.proofs.raw_atomic.Walks.{proved_at}
use Rattle.std.proofs.VecSteps.Shapes.{after}
use Rattle.std.proofs.alloc.Calls.{token}
use Rattle.std.proofs.BoxSteps.Form.{D, R, P, B, args, box_ty, word, box_typed}
use Rattle.std.proofs.BoxSteps.Steps.{box_out, box_in}
use Rattle.std.specs.Box.Ownership.{box_owns}
use Rattle.std.specs.contracts.boxed.Box.from_raw as g
use Rattle.std.proofs.boxed.Box.from_raw.Met.{met}
use Rattle.std.proofs.boxed.Box.from_raw.Symbol.{name}
use Rattle.std.proofs.impls.GlobalAllocator.TheImpl.Met.{passed}
use Rattle.std.proofs.alloc.Global.TheLaws as heap
use Rattle.redis_session.proofs.session.Session.TheLaws as inner
use Rattle.slotroute_c.proofs.AsBox.{Boxed, as_box}
use Rattle.slotroute_c.specs.contracts.session_handle.SessionHandle.{the_row as H}
use Rattle.slotroute_c.specs.contracts.session_handle.SessionHandle.into_box as f
use Rattle.slotroute_c.proofs.session_handle.SessionHandle.into_box.Statement.{statement}
use Rattle.slotroute_c.proofs.session_handle.SessionHandle.into_box.Code as code
use Rattle.slotroute_c.proofs.Destruct++none.drop.Code as destruct

abbrev stayed : Stays f.ended.signature.params f.ended.kept
stayed = (stay_dropped (plain (λ _. H)) yes, tt)

-- the contract of `from_raw` at a session and the global allocator
abbrev Makes : {M : Type 1} {𝓤 : Ura M} (𝓛 : Logic 𝓤) → (Memory → SProp 𝓤) → (Routine → Fun 𝓤) → Contract 𝓤
Makes 𝓛 mem run = triple_of 𝓛 (g.signature Boxed.row Boxed.al.row Boxed.al.g Boxed.al.d Boxed.al.drops) (g.spec Boxed.row Boxed.al.row Boxed.al.g Boxed.al.d Boxed.al.drops 𝓛 mem run)

makes : {M : Type 1} (𝓤 : Ura M) (𝓛 : Logic 𝓤) (𝓜 : Model 𝓤 𝓛.H) (𝓡 : Running 𝓤 𝓛.H 𝓜) → Wired 𝓡.env code.code
    → Triple 𝓤 ((tables 𝓤 𝓛.H 𝓜 𝓡 𝓡.env).C (name (args Boxed))) (Makes 𝓛 𝓜.mem 𝓡.returns)
unfolding destruct.code
makes {M = M} 𝓤 𝓛 𝓜 𝓡 wired =
    let env = 𝓡.env in let Z = Boxed.al in
    met 𝓤 𝓛 𝓜 𝓡 (code.calls-std_alloc::boxed::Box::from_raw env wired) Boxed.row Z.row Boxed.laws Z.laws Z.g Z.d Z.drops
    (passed env (code.calls-std_heap::GlobalAllocator::allocate env wired) (code.calls-std_heap::GlobalAllocator::deallocate env wired)
    (code.calls-std_heap::GlobalAllocator::grow env wired) (code.calls-std_heap::GlobalAllocator::shrink env wired) M 𝓤 𝓛 𝓜 𝓡)
    (glues "slotroute_c::Destruct++none::drop" env (code.calls-slotroute_c::Destruct++none::drop env wired) Z.row Z.laws M 𝓤 𝓛 𝓜 𝓡)

pub into_box_spec : {M : Type 1} → statement M
into_box_spec {M = M} 𝓤 𝓛 𝓜 𝓡 wired =
    let c = f.clauses 𝓛 𝓜.mem 𝓡.returns in let 𝓣 = tables 𝓤 𝓛.H 𝓜 𝓡 𝓡.env in
    let X = Boxed.row in let Z = Boxed.al.row in let G = Makes 𝓛 𝓜.mem 𝓡.returns in
    proved_at 𝓛 f.ended stayed c 𝓜 𝓡 (Goes-dropped 𝓛 0 (plain (λ _. H)) yes (λ κs x w. refl), tt)
    f.Key.name code.function (code.unfolded 𝓤 𝓛.H 𝓜 𝓡 wired) (λ z are.
    let Post = (walk_of 𝓛 f.ended stayed c).post z in let h = z.0.3.0 in
    qed 𝓛 ((‵ ftrue ⊛ ‵ (fsep ((B Boxed).own_val (as_box h) z.0.4.0) ftrue)) ∷ raw (emp 𝓤) ∷ []) ∵ split ! $ drop ! $ fsplit ! $
    box_out Boxed ! (as_box h) z.0.4.0 (λ b o hv at word_is fits. fjoin ! $ move ! (2 ∷ []) $ drop ! $ move ! (2 ∷ []) $ drop ! $
    regoal ! (λ (us : List Val). prop (WpFn 𝓤 𝓛.H 𝓣.C 𝓣.Λ code.function (us ++ []) Post)) word_is refl $
    enter ! _ _ _ _ _ $ alloc_all ! (λ l. pass_all ! refl (box_typed Boxed hv b o fits, tt) $
    sets ! (of_opd ! (get_in ! (fld ! refl (stop !)) (sub ! 0 refl (whole !)))) refl (tt, tt) $
    sets ! (of_opd ! (get_in ! (fld ! refl (stop !)) (sub ! 1 refl (whole !)))) refl fits $
    first ! $ blocks ! $ sets ! (of_opd ! (get ! refl)) refl (tt, tt) $
    lft_new ! tt (λ α. lft_new ! tt (λ β.
    let ts = ‵ (flft (α ∷ []) full_share) ⊛ ‵ (flft (β ∷ []) full_share) ⊛ ‵ ftrue in
    let y : G.Ghost = ((((α ∷ [], (β ∷ [], tt)), (full_share, (full_share, tt)), tt, (h.alloc, (block_ptr b o, tt)), (hv ∷ [], (vptr b o ∷ [], tt)))), h.value) in
    -- [the tokens; what `from_raw` asks; the allocator]
    nothing ! $ move ! (1 ∷ 0 ∷ []) $ join ! $ move ! (1 ∷ 0 ∷ []) $ join ! $
    move ! (1 ∷ []) $ use0 𝓛 (raw (fact 𝓤 (β ∷ [] ⊑ Z.lives))) (fact_i 𝓤 _ (emp 𝓤) (heap.the_within (β ∷ []))) $ join ! $
    use0 𝓛 (raw (fact 𝓤 (α ∷ [] ⊑ X.lives))) (fact_i 𝓤 _ (emp 𝓤) (inner.the_within (α ∷ []))) $ join ! $
    nothing ! $ feq_i ! (List Val) (vptr b o ∷ []) (vptr b o ∷ []) refl $ fjoin ! $ move ! (3 ∷ 0 ∷ []) $ fjoin ! $
    move ! (2 ∷ 0 ∷ []) $ join ! $ join ! $ use1 𝓛 (raw (G.pre y)) (id⊢ 𝓤 _) $
    calls_at_last ! (framed 𝓤 𝓛.H 𝓜 𝓣) G (makes 𝓤 𝓛 𝓜 𝓡 wired) y
    (and_then ! (get ! refl) (and_then ! (get ! refl) (no_more !))) (λ u.
    use1 𝓛 (later (some (λ (r : D Boxed). (ts ⊛ ‵ ((B Boxed).own_val r (u ∷ []))) ⊛ some (λ (_ : Unit {0} × (Unit {0} × Unit {0})). ‵ (fsep ftrue (fsep ftrue ftrue)) ⊛ (raw (fact 𝓤 (r.value ≡ h.value)) ⊛ raw (fact 𝓤 (r.alloc ≡ h.alloc))))))) (id⊢ 𝓤 _) $
    await ! tt $ pick ! (λ r. split ! $ move ! (1 ∷ []) $ pick ! (λ _. split3 ! $ drop ! $ heard ! (r.value ≡ h.value) (λ same. drop ! $ split ! $ drop ! $
    box_out Boxed ! r (u ∷ []) (λ b' o' hv' at' word_is' fits'. box_in Boxed ! r b' o' r.value at' refl $ rewrite ! 0 (λ (us : List Val). ‵ ((B Boxed).own_val r us)) (sym word_is') refl $
    let typed : T (has_ty (box_ty Boxed) u) × WT u = subst (λ (s : Val). T (has_ty (box_ty Boxed) s) × WT s) (sym (ap only word_is')) (box_typed Boxed hv' b' o' fits') in
    lands_last ! refl typed $ exec ! 𝓣.C 𝓣.Λ (env code.Mir.locals l) code.Mir.t-4 (at_ret _ Post) $
    sets ! (of_opd ! (get ! refl)) refl typed $ returns ! (look_at ! 0 refl) $ free_all ! refl $
    suffices ! _ (ends_at 𝓛 f.ended stayed c z u r (tt, tt) (tt, tt)) $ says ! same $
    nothing ! $ nothing ! $ fjoin ! $ join ! $ nothing ! $ join ! $ done !))))))))))

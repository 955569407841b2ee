-- `get_mut` opens the borrow of the handle, reads the pointer, and lends what lies there.
use mathlib.Core.Path.{◌≡◌, refl}
use mathlib.Core.List.{List, [], ◌∷◌}
use base.Fraction.{full_share}
use base.Logic.{ent, sep, id⊢}
use base.Fml.{GName, Fml, ftrue, fsep, flft}
use mir.Raw.{raw as bare}
use mir.Syntax.{named}
use mir.Val.{Val, vptr}
use contract.Running.{tables}
use types.Logic.{Logic, sem}
use seplogic.Ra.Ura.{Ura}
use Prim.Native.Nat.{ℕ}
use types.Kit.{‵, raw, ◌⊛◌, some, later, at_ret, ◌$◌, ◌∵◌, !, qed, move, keep, use1, rewrite, split, split3, fsplit, fsplit3, fjoin, fpack, join, pick, await, suffices, frame, group, done}
use types.Part.{whole, sub, look_in}
use types.Run.{enter, of_opd, addr, load, stop, fld, first, blocks, exec, returns}
use types.ByLocal.{alloc_all, pass_all, free_all, look_at, get, through, sets, sets_last, env}
use denote.Exit.{no}
use denote.Follow.{Part, follows, lends_Part}
use denote.Memory.{cell_at, mem, part_at, part_of}
use denote.RawPtr.{block_ptr}
use Rattle.std.specs.Borrow.{MutBor}
use denote.Ref.{MutRef, mut_vals, mut_Tells}
use denote.Signature.{plain, mut_ref_to}
use denote.Steps.{nothing, opens}
use denote.Triple.Walked.{Stays, walk_of, says, stay_dropped, Goes-spent_ref, ends_at}
use Rattle.std.proofs.raw_atomic.Walks.{proved}
use Rattle.std.proofs.VecSteps.Shapes.{after}
use Rattle.std.proofs.alloc.Calls.{token}
use Rattle.std.proofs.BoxSteps.Form.{R, τ, word, handle}
use Rattle.std.proofs.BoxSteps.Steps.{box_out, box_in}
use Rattle.slotroute_c.proofs.AsBox.{Boxed, as_box}
use Rattle.slotroute_c.specs.SessionHandles.{holding}
use Rattle.slotroute_c.specs.contracts.session_handle.SessionHandle.{the_row as H}
use Rattle.slotroute_c.specs.contracts.session_handle.SessionHandle.get_mut as f
use Rattle.slotroute_c.proofs.session_handle.SessionHandle.get_mut.Statement.{statement}
use Rattle.slotroute_c.proofs.session_handle.SessionHandle.get_mut.Code as code

abbrev stayed : Stays f.ended.signature.params f.ended.kept
stayed = (stay_dropped (mut_ref_to (0 ∷ []) tt (plain (λ _. H))) no, tt)

-- all that a handle at (rb, ro) is made of but its value, which lies at (b, o)
abbrev other : H.Denot → ℕ → ℕ → ℕ → ℕ → Val → Fml
other h rb ro b o hv = fsep (fsep (token (Boxed.al) h.alloc (bare (τ Boxed)) (block_ptr b o)) (handle Boxed h.alloc hv)) (cell_at full_share H.mir (word Boxed hv b o ∷ []) rb ro)

-- with any value there it makes a handle of that value
comes_back : {M : Type 1} {𝓤 : Ura M} (𝓛 : Logic 𝓤) (h : H.Denot) (rb ro b o : ℕ) (hv : Val) → h.at ≡ block_ptr b o → (w : (R Boxed).Denot)
    → ent 𝓤 (sep 𝓤 (sem 𝓛 ((mem (R Boxed)).own_at w b o)) (sem 𝓛 (other h rb ro b o hv))) (sem 𝓛 ((mem H).own_at (holding h w) rb ro))
unfolding part_of
comes_back 𝓛 h rb ro b o hv at w =
    qed 𝓛 (‵ (part_at (R Boxed) full_share w b o) ∷ ‵ (other h rb ro b o hv) ∷ []) ∵ move ! (1 ∷ []) $ fsplit ! $ fsplit ! $ move ! (3 ∷ []) $
    box_in Boxed ! (as_box (holding h w)) b o w at refl $ move ! (1 ∷ 0 ∷ []) $ fjoin ! $
    fpack ! (List Val) (λ us. fsep (cell_at full_share H.mir us rb ro) (H.own_val (holding h w) us)) (word Boxed hv b o ∷ []) $ done !

pub get_mut_spec : {M : Type 1} → statement M
get_mut_spec 𝓤 𝓛 𝓜 𝓡 wired =
    let c = f.clauses 𝓛 𝓜.mem 𝓡.returns in let W = walk_of 𝓛 f.ended stayed c in let 𝓣 = tables 𝓤 𝓛.H 𝓜 𝓡 𝓡.env in
    proved 𝓛 f.ended stayed c 𝓜 𝓡 (Goes-spent_ref 𝓛 1 (0 ∷ []) tt (plain (λ _. H)), tt)
    f.Key.name code.function (code.unfolded 𝓤 𝓛.H 𝓜 𝓡 wired)
    (λ κs. (mut_vals, tt)) (λ κs. (mut_Tells (named 0) κs.0 H, tt)) (λ κs qs bounds a _ are.
    let κ = κs.0 in let q = qs.0 in let γ = a.0.ghost_name in let rb = a.0.ref_ptr.0 in let ro = a.0.ref_ptr.1 in
    let h = a.0.now in let vs = mut_vals a.0 in
    let y : W.Ghost = ((κs, qs, bounds, a, (vs, tt)), tt) in
    qed 𝓛 (((‵ (flft κ q) ⊛ ‵ ftrue) ⊛ ‵ ((MutRef (named 0) κ H).own_val a.0 vs) ⊛ ‵ ftrue) ∷ ‵ ftrue ∷ []) ∵
    split ! $ split ! $ move ! (2 ∷ []) $ split ! $ keep ! (0 ∷ 2 ∷ []) $
    enter ! _ _ _ _ _ $ alloc_all ! (λ l. pass_all ! refl ((tt, tt), tt) $
    fsplit3 ! $ move ! (1 ∷ 2 ∷ 3 ∷ []) $ opens ! tt H rb ro (λ us. move ! (1 ∷ []) $
    box_out Boxed ! (as_box h) us (λ b o hv at word_is fits. move ! (1 ∷ 2 ∷ []) $ fjoin ! $ move ! (1 ∷ []) $
    rewrite ! 2 (λ (ws : List Val). ‵ (cell_at full_share H.mir ws rb ro)) word_is refl $
    -- [the value; its block's token and the allocator; the handle's cell; the open borrow, in three entries]
    first ! $ blocks ! $
    sets ! (of_opd ! (load ! (through ! refl (fld ! refl (stop !))) (look_in ! 2 (sub ! 0 refl (whole !))))) refl (tt, tt) $
    sets ! (of_opd ! (get ! refl)) refl (tt, tt) $
    sets_last ! (addr ! (through ! refl (stop !))) refl (tt, tt) $
    exec ! 𝓣.C 𝓣.Λ (env code.Mir.locals l) (after 1 (code.function).body) (at_ret _ (W.post y)) $
    sets ! (of_opd ! (get ! refl)) refl (tt, tt) $
    move ! (1 ∷ 2 ∷ []) $ fjoin ! $ move ! (2 ∷ 3 ∷ 4 ∷ 1 ∷ 0 ∷ []) $ group ! 5 $
    let Left = sem 𝓛 (other h rb ro b o hv) in let back = comes_back 𝓛 h rb ro b o hv at in
    use1 𝓛 (later (some (λ (δ : GName). raw (Part 𝓛 H (R Boxed) (holding h) (named 0) κ q rb ro b o γ Left back h.value δ))))
    (lends_Part 𝓛 H (R Boxed) (holding h) (named 0) κ q rb ro b o γ Left back (H.coded.code h) (H.coded.code h) h.value) $ await ! tt $ pick ! (λ δ.
    returns ! (look_at ! 0 refl) $ free_all ! refl $ keep ! (0 ∷ []) $
    let lent : MutBor (R Boxed).Denot = record { ref_ptr = (b, o); ghost_name = δ; now = h.value } in
    use1 𝓛 (‵ ((MutRef (named 0) κ (R Boxed)).own_val lent (vptr b o ∷ [])) ⊛ ‵ (flft κ q) ⊛ ‵ (follows H (R Boxed) γ δ (holding h))) (id⊢ 𝓤 _) $ split3 ! $
    suffices ! _ (ends_at 𝓛 f.ended stayed c y (vptr b o) lent (tt, tt) (tt, tt)) $
    nothing ! $ nothing ! $ fjoin ! $ join ! $ nothing ! $ move ! (2 ∷ 0 ∷ []) $ join ! $ join ! $ frame ! $ says ! refl $ done !)))))

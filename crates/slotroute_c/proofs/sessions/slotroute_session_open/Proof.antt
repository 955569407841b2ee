-- `slotroute_session_open` leaves the block's pointer in the caller's variable.
use mathlib.Core.Path.{◌≡◌, refl, ap, ◌∙◌}
use mathlib.Core.List.{List, [], ◌∷◌, ◌++◌}
use Prim.Native.Nat.{ℕ, ◌<◌, ◌^◌}
use lib.Dec.{lit<}
use seplogic.Ra.Ura.{Ura}
use base.Fraction.{full_share}
use base.Logic.{SProp, emp, id⊢}
use base.Fml.{fex, ftrue, fsep, flft, fobs, fbor}
use types.SemTy.{Body as Borrowed}
use contract.Monad.{fact}
use contract.Running.{tables}
use mir.Syntax.{Body, named, w32}
use mir.Val.{Val, vint, vptr, vstruct, vnil, vcons, of_list}
use prog.Wp.{Wp, WpFn, after_seq, at_return}
use types.Kit.{Goal, Seq, Sq, Item, ‵, raw, prop, ◌⊛◌, some, later, at_ret, any_q, ◌$◌, ◌∵◌, !, qed, move, keep, use1, drop, split, split3, join, fsplit, fsplit3, fjoin, fjoin3, fpick, fpack, feq_l, feq_i, pick, await, rewrite, regoal, suffices, frame, group, done}
use types.Logic.{Logic, sem}
use types.Match.{live, vrt, in_variant}
use types.Part.{whole, sub}
use types.Run.{enter, of_opd, lit, stop, fld, store, no_more, and_then, first, assigns, switches_on, exec, returns}
use types.ByLocal.{alloc_all, pass_all, free_all, look_at, get, get_in, get_tag, through, sets, sets_last, lands_as, env}
use denote.Builtin.{u8, u32, RefOf, SliceRefOf}
use denote.Exit.{yes}
use denote.Memory.{cell_at, mem}
use denote.Plain.{uint_Makes}
use denote.RawPtr.{Ptr, RawPtr, block_ptr, ptr_val}
use denote.Ref.{MutRef, ShrRef, mut_vals, mut_Tells, shr_vals, shr_Tells}
use denote.Slice.{ShrSlice, shr_slice_vals, shr_slice_Tells}
use denote.Signature.{Slot, plain}
use denote.Steps.{nothing, heard, only, owned, opens, closes}
use denote.Triple.Call.{calls_at}
use denote.Triple.Clauses.{Lasts, lasts}
use denote.Triple.Spec.{triple_of}
use denote.Triple.Table.{framed}
use denote.Triple.Walked.{Stays, walk_of, says, stay_dropped, stay_ref, Goes-dropped, Goes-ref, ends_at}
use Rattle.std.proofs.raw_atomic.Walks.{proved_at}
use Rattle.std.proofs.VecSteps.Shapes.{after, head, arm_body}
use Rattle.std.proofs.ResultValues.{and_tt}
use Rattle.std.proofs.alloc.Calls.{Fits, handle_tells}
use Rattle.std.proofs.BoxSteps.Form.{B, D, word, box_typed}
use Rattle.std.proofs.BoxSteps.Steps.{box_out}
use Rattle.std.specs.Prelude.{IfOk}
use Rattle.std.specs.contracts.alloc.AllocError.{the_row as NoMemory}
use Rattle.std.specs.contracts.alloc.Global.{the_row as Heap}
use Rattle.std.specs.contracts.impls.GlobalAllocator.TheImpl.{ghosts}
use Rattle.std.specs.contracts.result.Result as result
use Rattle.std.specs.declared.result.Result.TheVariants.{Ok, Err}
use Rattle.slotroute_c.specs.SessionBlocks.{block_owns}
use Rattle.redis_session.specs.SessionStates.{SessionState}
use Rattle.slotroute_c.specs.SessionHandles.{opened, opens as opens_to}
use Rattle.redis_session.specs.contracts.session.Session.{the_row as Inner}
use Rattle.slotroute_c.specs.contracts.sessions.SessionSettings.{the_row as Settings}
use Rattle.slotroute_c.specs.contracts.block.Block.{the_row as block_row}
use Rattle.slotroute_c.proofs.AsBox.{Boxed}
use Rattle.slotroute_c.specs.contracts.sessions.on_heap as g
use Rattle.slotroute_c.proofs.sessions.on_heap.Met.{met}
use Rattle.slotroute_c.specs.contracts.sessions.slotroute_session_open as f
use Rattle.slotroute_c.proofs.sessions.slotroute_session_open.Statement.{statement}
use Rattle.slotroute_c.proofs.sessions.slotroute_session_open.Code as code
use denote.RattleType.{RattleType}

abbrev Made : RattleType
Made = block_row Inner Heap ghosts

abbrev Outcome : RattleType
Outcome = result.the_row Made NoMemory

abbrev SettingsRef : Slot 3
SettingsRef = RefOf (0 ∷ []) tt (plain (λ _. Settings)) (λ _. tt)

abbrev LoginRef : Slot 3
LoginRef = SliceRefOf (1 ∷ []) tt (plain (λ _. u8)) (λ _. tt)

abbrev stayed : Stays f.ended.signature.params f.ended.kept
stayed = (stay_dropped (plain (λ _. Heap)) yes, (stay_dropped SettingsRef yes, (stay_dropped LoginRef yes, (stay_ref (2 ∷ []) tt (plain (λ _. RawPtr)), tt))))

abbrev as_box : Made.Denot → D Boxed
as_box x = record { ptr = x.ptr; alloc = x.alloc; value = x.value }

abbrev made_val : Val → ℕ → ℕ → Val
made_val hv b o = live 0 (vcons (word Boxed hv b o) vnil)

-- what came of the call that makes the block
outcomes : {M : Type 1} {K : Type 0} {𝓤 : Ura M} {𝓛 : Logic 𝓤} {Γ : List (Item 𝓤)} {G : Goal 𝓤 𝓛.H} → K → (alloc : Heap.Denot) (settings : Settings.Denot) (login : List ℕ) (old : Ptr) (r : Outcome.Denot) (u : Val) → IfOk r (λ x. x.value ≡ opened settings login)
    → ((b o : ℕ) (hv : Val) → u ≡ made_val hv b o → Fits (Boxed.al) hv → Seq K 𝓛 (‵ (opens_to alloc settings login 0 old (block_ptr b o)) ∷ Γ) G)
    → (u ≡ live 1 (vcons (vstruct vnil) vnil) → Seq K 𝓛 Γ G)
    → Seq K 𝓛 (‵ (Outcome.own_val r (u ∷ [])) ∷ Γ) G
outcomes t alloc settings login old (Ok x) u new made none =
    fpick t (λ us. fsplit t $ feq_l t (λ u_is. fpick t (λ words. fsplit t $ feq_l t (λ us_is. fsplit t $ move t (1 ∷ []) $ drop t $
    box_out Boxed t (as_box x) words.0 (λ b o hv at word_is fits. fjoin t $ move t (1 ∷ []) $ drop t $
    rewrite t 0 (λ (y : SessionState). ‵ (block_owns alloc (block_ptr b o) y)) new refl $
    made b o hv (ap only (u_is ∙ (λ j. live 0 (of_list ((us_is ∙ ap (λ (ws : List Val). ws ++ []) word_is) j)) ∷ []))) fits)))))
outcomes t alloc settings login old (Err x) u new made none =
    fpick t (λ us. fsplit t $ feq_l t (λ u_is. fpick t (λ words. fsplit t $ feq_l t (λ us_is. fsplit t $ move t (1 ∷ []) $ drop t $
    fpick t (λ fields. fsplit t $ feq_l t (λ word_is. drop t $
    none (ap only (u_is ∙ (λ j. live 1 (of_list ((us_is ∙ ap (λ (ws : List Val). ws ++ []) word_is) j)) ∷ [])))))))))

pub slotroute_session_open_spec : {M : Type 1} → statement M
slotroute_session_open_spec 𝓤 𝓛 𝓜 𝓡 wired =
    let c = f.clauses 𝓛 𝓜.mem 𝓡.returns in let 𝓣 = tables 𝓤 𝓛.H 𝓜 𝓡 𝓡.env in
    let G = triple_of 𝓛 g.signature (g.spec 𝓛 𝓜.mem 𝓡.returns) in
    proved_at 𝓛 f.ended stayed c 𝓜 𝓡
    (Goes-dropped 𝓛 3 (plain (λ _. Heap)) yes (λ κs x w. refl), (Goes-dropped 𝓛 3 SettingsRef yes (λ κs x w. refl), (Goes-dropped 𝓛 3 LoginRef yes (λ κs x w. refl), (Goes-ref 𝓛 3 2 tt (plain (λ _. RawPtr)), tt))))
    f.Key.name code.function (code.unfolded 𝓤 𝓛.H 𝓜 𝓡 wired) (λ z are.
    let κs = z.0.0 in let qs = z.0.1 in let κ = κs.1.1.0 in let q = qs.1.1.0 in
    let alloc = z.0.3.0 in let settings = z.0.3.1.0 in let login = z.0.3.1.1.0 in let out = z.0.3.1.1.1.0 in
    let ob = out.ref_ptr.0 in let oo = out.ref_ptr.1 in let words = z.0.4 in
    let Post = (walk_of 𝓛 f.ended stayed c).post z in
    let Alloc = Boxed.al.row in let Lim = ShrRef (named 0) κs.0 Settings in let Log = ShrSlice (named 1) κs.1.0 u8 in
    let settings_is = shr_Tells (named 0) κs.0 Settings settings words.1.0 are.1.0 in let login_is = shr_slice_Tells (named 1) κs.1.0 u8 login words.1.1.0 are.1.1.0 in
    let out_is = mut_Tells (named 2) κ RawPtr out words.1.1.1.0 are.1.1.1.0 in
    let Run : List Val → List Val → List Val → List Val → Goal 𝓤 𝓛.H = λ vs ws us os. prop (WpFn 𝓤 𝓛.H 𝓣.C 𝓣.Λ code.function (vs ++ (ws ++ (us ++ (os ++ [])))) Post) in
    let coded = (RawPtr.coded).code in
    let ends : (n : ℕ) (new : Ptr) → n < 2 → n < 2 ^ 32
    → Sq 𝓛 (‵ (fobs out.ghost_name (coded new)) ∷ ‵ (fbor κ (Borrowed (mem RawPtr) ob oo out.ghost_name)) ∷ ‵ (flft κ q) ∷ ‵ (opens_to alloc settings.now login.now n out.now new) ∷ (‵ (flft κs.0 qs.0) ⊛ ‵ (flft κs.1.0 qs.1.0) ⊛ ‵ ftrue) ∷ []) (prop (Post (vint w32 n))) = λ n new low fits.
    suffices ! _ (ends_at 𝓛 f.ended stayed c z (vint w32 n) n (tt, (tt, (tt, (new, tt)))) (tt, (tt, (tt, (tt, tt))))) $
    feq_i ! (List Val) words.1.1.1.0 (vptr ob oo ∷ []) out_is $ fjoin3 ! $ nothing ! $ move ! (1 ∷ 0 ∷ []) $ fjoin ! $ nothing ! $ fjoin ! $ nothing ! $ fjoin ! $ nothing ! $ fjoin ! $
    owned ! u32 _ (uint_Makes 𝓛 w32) n _ (refl, fits) $
    -- [the result; what is left of the parameters; the token of out; what the variable leads to; the other tokens]
    move ! (4 ∷ []) $ split ! $ move ! (1 ∷ []) $ split ! $ move ! (5 ∷ 1 ∷ []) $ join ! $ move ! (1 ∷ 0 ∷ []) $ join ! $ move ! (1 ∷ 0 ∷ []) $ join ! $
    move ! (0 ∷ 2 ∷ 1 ∷ []) $ group ! 3 $ frame ! $ says ! low $ done ! in
    qed 𝓛 (((‵ (flft κs.0 qs.0) ⊛ ‵ (flft κs.1.0 qs.1.0) ⊛ ‵ (flft κ q) ⊛ ‵ ftrue)
    ⊛ ‵ (Alloc.own_val alloc words.0) ⊛ ‵ (Lim.own_val settings words.1.0) ⊛ ‵ (Log.own_val login words.1.1.0) ⊛ ‵ ((MutRef (named 2) κ RawPtr).own_val out words.1.1.1.0) ⊛ ‵ ftrue) ∷ raw (emp 𝓤) ∷ []) ∵
    split ! $ move ! (1 ∷ []) $ split ! $ handle_tells (Boxed.al) ! alloc words.0 (λ hv alloc_is fits.
    move ! (1 ∷ []) $ split ! $ move ! (1 ∷ []) $ split ! $ move ! (1 ∷ []) $ split ! $ fsplit3 ! $ drop ! $
    -- [the borrow of the variable, in two entries; true; the login; the settings; the allocator; the tokens]
    rewrite ! 3 (λ (vs : List Val). ‵ (Log.own_val login vs)) login_is refl $ rewrite ! 4 (λ (vs : List Val). ‵ (Lim.own_val settings vs)) settings_is refl $
    move ! (6 ∷ []) $ split ! $ move ! (1 ∷ []) $ split ! $ move ! (1 ∷ []) $ split ! $ keep ! (3 ∷ 2 ∷ 9 ∷ 8 ∷ 7 ∷ 4 ∷ 5 ∷ 0 ∷ []) $
    -- [the tokens of the settings and of the login; the allocator; the settings; the login; the borrow, in two entries; its token]
    regoal ! (λ (vs : List Val). Run vs words.1.0 words.1.1.0 words.1.1.1.0) alloc_is refl $ regoal ! (λ (vs : List Val). Run (hv ∷ []) vs words.1.1.0 words.1.1.1.0) settings_is refl $
    regoal ! (λ (vs : List Val). Run (hv ∷ []) (shr_vals settings) vs words.1.1.1.0) login_is refl $ regoal ! (λ (vs : List Val). Run (hv ∷ []) (shr_vals settings) (shr_slice_vals login) vs) out_is refl $
    enter ! 𝓣.C 𝓣.Λ code.function (hv ∷ (shr_vals settings ++ (shr_slice_vals login ++ (vptr ob oo ∷ [])))) Post $ alloc_all ! (λ l. pass_all ! refl (fits, ((tt, tt), ((tt, (tt, (record { fits = are.1.1.0.0.1.0 }, tt))), ((tt, tt), tt)))) $
    let En = env code.Mir.locals l in let arms : Body = head (after 1 (code.function).body) in
    let Then = any_q (after_seq 𝓤 𝓛.H (Wp 𝓤 𝓛.H 𝓣.C 𝓣.Λ En (after 2 (code.function).body) (at_return 𝓤 𝓛.H En Post)) (at_return 𝓤 𝓛.H En Post)) in
    let y : G.Ghost = (((κs.0, (κs.1.0, tt)), (qs.0, (qs.1.0, tt)), tt, (alloc, (settings, (login, tt))), (hv ∷ [], (shr_vals settings, (shr_slice_vals login, tt)))), tt) in
    nothing ! $ move ! (5 ∷ 0 ∷ []) $ fjoin ! $ move ! (4 ∷ 0 ∷ []) $ fjoin ! $ move ! (3 ∷ 0 ∷ []) $ fjoin ! $
    nothing ! $ move ! (3 ∷ 0 ∷ []) $ join ! $ move ! (2 ∷ 0 ∷ []) $ join ! $ join ! $ nothing ! $ move ! (1 ∷ 0 ∷ []) $ join ! $ use1 𝓛 (raw (G.pre y)) (id⊢ 𝓤 _) $
    calls_at ! (framed 𝓤 𝓛.H 𝓜 𝓣) G (met 𝓤 𝓛 𝓜 𝓡 (code.calls-slotroute_c::sessions::on_heap 𝓡.env wired)) y (and_then ! (get ! refl) (and_then ! (get ! refl) (and_then ! (get ! refl) (no_more !)))) (λ u.
    use1 𝓛 (later (some (λ (r : Outcome.Denot). ((‵ (flft κs.0 qs.0) ⊛ ‵ (flft κs.1.0 qs.1.0) ⊛ ‵ ftrue) ⊛ ‵ (Outcome.own_val r (u ∷ [])))
    ⊛ some (λ (ws : Lasts g.ended y.0.0 y.0.3). ‵ (lasts g.ended y.0.0 y.0.3 ws) ⊛ raw (fact 𝓤 (IfOk r (λ x. x.value ≡ opened settings.now login.now))))))) (id⊢ 𝓤 _) $
    await ! tt $ pick ! (λ r. split ! $ move ! (1 ∷ []) $ pick ! (λ ws. split ! $ drop ! $ heard ! (IfOk r (λ x. x.value ≡ opened settings.now login.now)) (λ new. split ! $ move ! (1 ∷ []) $
    outcomes ! alloc settings.now login.now out.now r u new
    (λ b o hv' u_is fits'. let typed = box_typed Boxed hv' b o fits' in
    lands_as ! u_is refl (and_tt _ typed.0, (record { fits = lit< tt }, (typed.1, tt))) $
    first ! $ switches_on ! (get_tag ! (vrt ! refl (fld ! refl (stop !))) (whole !)) $ exec ! 𝓣.C 𝓣.Λ En (arm_body 0 arms) Then $
    sets ! (of_opd ! (get_in ! (vrt ! refl (fld ! refl (stop !))) (in_variant ! 0 0 refl refl (whole !)))) refl typed $
    sets ! (of_opd ! (get_in ! (fld ! refl (stop !)) (sub ! 0 refl (whole !)))) refl (tt, tt) $ sets ! (of_opd ! (get ! refl)) refl (tt, tt) $
    move ! (2 ∷ 3 ∷ 4 ∷ []) $ opens ! tt RawPtr ob oo (λ us. move ! (1 ∷ []) $ feq_l ! (λ us_is.
    rewrite ! 0 (λ (ws' : List Val). ‵ (cell_at full_share RawPtr.mir ws' ob oo)) us_is refl $
    assigns ! (of_opd ! (get ! refl)) (through ! refl (stop !)) (store ! 0 refl (tt, tt)) $
    feq_i ! (List Val) (vptr b o ∷ []) (vptr b o ∷ []) refl $ move ! (1 ∷ 0 ∷ []) $ closes ! tt RawPtr (block_ptr b o) (vptr b o ∷ []) ob oo $
    sets_last ! (of_opd ! (lit ! tt)) refl (tt, record { fits = lit< tt }) $ exec ! 𝓣.C 𝓣.Λ En (after 2 (code.function).body) (at_ret En Post) $
    sets ! (of_opd ! (get ! refl)) refl (tt, record { fits = lit< tt }) $ returns ! (look_at ! 0 refl) $ free_all ! refl $
    keep ! (0 ∷ 1 ∷ 2 ∷ 3 ∷ 4 ∷ []) $ ends 0 (block_ptr b o) (lit< tt) (lit< tt))))
    (λ u_is.
    lands_as ! u_is refl (tt, (record { fits = lit< tt }, (tt, tt))) $
    first ! $ switches_on ! (get_tag ! (vrt ! refl (fld ! refl (stop !))) (whole !)) $ exec ! 𝓣.C 𝓣.Λ En (arm_body 1 arms) Then $
    sets_last ! (of_opd ! (lit ! tt)) refl (tt, record { fits = lit< tt }) $ exec ! 𝓣.C 𝓣.Λ En (after 2 (code.function).body) (at_ret En Post) $
    sets ! (of_opd ! (get ! refl)) refl (tt, record { fits = lit< tt }) $ returns ! (look_at ! 0 refl) $ free_all ! refl $
    keep ! (0 ∷ 1 ∷ 2 ∷ 3 ∷ []) $ feq_i ! Ptr out.now out.now refl $ move ! (2 ∷ 3 ∷ 4 ∷ 0 ∷ 1 ∷ []) $ ends 1 out.now (lit< tt) (lit< tt)))))))))

use Rattle.std.proofs.Common.{◌≡◌, Some, refl, sym, ap, subst, ◌∙◌}
use Rattle.std.specs.Option.{option_and_then, option_copied_mut, IsSome}
use Rattle.session_machine.specs.declared.caller_table.Slot.{Slot}
use Rattle.session_machine.specs.CallerTable.{in_slot, kept_in, IsWritten}
use Rattle.session_machine.proofs.CallerTables.{put_there, put_back, on_there, on_copied}
use Rattle.session_machine.proofs.caller_table.CallerTable.get_mut.Goals as goal

pub returns-in-Some : goal.returns-in-Some
returns-in-Some c =
    let old = c.args.self.now in
    let there = c.in-Some.ensures.value in
    let kept : option_copied_mut c.get_mut.result ≡ kept_in c.args.caller old = c.get_mut.ensures.value ∙ ap (option_and_then in_slot) there in
    let written : (slot : Slot) → IsWritten c.args.caller old (c.slot_mut.follows.lender slot) slot = λ slot. on_there c.slot_mut.result c.in-Some.slot c.in-Some.is (c.slot_mut.follows.holds slot) in (
      (
        refl,
        (λ w some.
            let slot = c.get_mut.follows.lender w in
            put_there c.args.caller old (c.slot_mut.follows.lender slot) slot (Some w) (written slot) (on_copied c.get_mut.result (subst IsSome (sym kept) some) (c.get_mut.follows.holds w))),
        (let slot = c.get_mut.follows.lender-at-none in
            put_back c.args.caller old (c.slot_mut.follows.lender slot) slot c.in-Some.slot.now there (written slot) c.get_mut.follows.holds-at-none),
      ),
      record { writes_back = tt; value = kept },
    )

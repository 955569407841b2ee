use Rattle.std.proofs.Common.{Vec, Global, ◌≡◌, ◌++◌, [], ◌<◌, ◌^◌, ℕ, List, length, decimal, get_or, take, ap, ◌∙◌, arith}
use Rattle.std.proofs.lemmas.Grind.{common_steps}
use Rattle.std.specs.List.{flat_map}
use Rattle.std.proofs.lemmas.List.{take_all}
use Rattle.resp.specs.Forms.{line, bulk_form}
use Rattle.resp.proofs.Written.{words_more, word_at, none_at, short_more}
use Rattle.resp.proofs.writing.push_command.Goals as goal
use Rattle.resp.proofs.writing.push_command.Goals.{in-Some+in_ok-push_bulk, in_default}

pub loop-index-preserved : goal.loop-index-preserved
loop-index-preserved c =
    let args = c.args.command.now in
    let index = c.loop-index.index in
    let lt : index < length args = omega arith in
    elim c.match-arg_idx.branch [
      | in-Some+in_ok-push_bulk w ↦
          let is : w.in-Some.arg.now ≡ get_or args index [] = word_at args index w.in-Some.arg.now lt w.in-Some.ensures.item in
          let short : length w.in-Some.arg.now < 2 ^ 63 = w.in_ok-push_bulk.ensures.short in (
            ap (λ (v : Vec ℕ Global). v.items) w.out-is ∙ w.in_ok-push_bulk.ensures.bytes
                ∙ ap (λ (t : List ℕ). t ++ bulk_form w.in-Some.arg.now) c.loop-index.invariant.0
                ∙ words_more c.args.out.now.items (line 42 (decimal (length args))) args index w.in-Some.arg.now lt is,
            short_more args index w.in-Some.arg.now lt is short c.loop-index.invariant.1,
          )
      | in_default w ↦ absurd (none_at args index lt w.in_default.ensures.item)
    ]

pub returns-clause-bytes : goal.returns-clause-bytes
returns-clause-bytes c =
    let args = c.args.command.now in
    let whole : take c.loop-index.index args ≡ args = take_all c.loop-index.index args (omega arith) in
    c.loop-index.invariant.0 ∙ ap (λ (ws : List (List ℕ)). c.args.out.now.items ++ (line 42 (decimal (length args)) ++ flat_map bulk_form ws)) whole

pub returns-clause-readable : goal.returns-clause-readable
returns-clause-readable c = grind (arith, common_steps)

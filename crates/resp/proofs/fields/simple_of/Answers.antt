use Rattle.std.proofs.Common.{◌≡◌, false, codes, string_bytes, ap, ◌∙◌, rules, arith}
use Rattle.std.proofs.lemmas.Grind.{common_steps}
use Rattle.std.specs.Prelude.{bytes_eq}
use Rattle.std.specs.Str.{is_utf8}
use Rattle.std.proofs.lemmas.Bool.{false_from_ne_true}
use Rattle.std.proofs.lemmas.Str.{IsUtf8-from_is_utf8, is_utf8-from_IsUtf8}
use Rattle.resp_core.specs.Reply.{bulk}
use Rattle.resp_core.proofs.Views.{view-SimpleString, view-BulkString}
use Rattle.resp.proofs.fields.simple_of.Goals as goal

pub returns-in_ok-from_str-in-Ok : goal.returns-in_ok-from_str-in-Ok
returns-in_ok-from_str-in-Ok c = grind (arith, common_steps, is_utf8-from_IsUtf8, string_bytes, view-SimpleString)

pub returns-in_ok-from_slice-in-Err : goal.returns-in_ok-from_slice-in-Err
returns-in_ok-from_slice-in-Err c =
    let no : is_utf8 c.args.text.now ≡ false = false_from_ne_true _ (λ t. c.in-Err.ensures.cases.0 (IsUtf8-from_is_utf8 c.args.text.now t)) in
    let off : bytes_eq c.args.text.now (codes "OK") ≡ false = search rules in
    rw (off, no) (view-BulkString c.in_ok-from_slice-in-Err.field-0 ∙ ap bulk c.in_ok-from_slice-in-Err.ensures.items)

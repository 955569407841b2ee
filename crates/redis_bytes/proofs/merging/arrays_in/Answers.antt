use Rattle.std.proofs.Common.{◌≡◌, ◌++◌, ◌∷◌, [], ℕ, List, Bor, length, map, sym, ap, subst, ◌∙◌, arith}
use Rattle.std.proofs.lemmas.Grind.{common_steps}
use Rattle.std.proofs.lemmas.List.{length-append, length-map, map-append, map_push}
use Rattle.resp_core.specs.Reply.{Reply, array, replies_of}
use Rattle.resp.specs.Forms.{form}
use Rattle.redis_bytes.specs.Merged.{arrays_of}
use Rattle.redis_bytes.specs.Replies.{IsReply}
use Rattle.redis_bytes.proofs.Arrays.{more_spans, no_spans}
use Rattle.redis_bytes.proofs.Sequence.{Stand, none_stand, one_more_stands}
use Rattle.redis_bytes.proofs.merging.arrays_in.Goals as goal

pub loop-init : goal.loop-init
loop-init c = grind (arith, common_steps, none_stand IsReply, no_spans)

pub loop-preserved : goal.loop-preserved
loop-preserved c =
    let now : Bor (List ℕ) → List ℕ = λ item. item.now in
    let l = c.loop.invariant in
    let found = rw c.in-Some.is at c.in_ok-after.ensures.found in
    let values = found.0 in
    let one : Reply = array (replies_of values) in
    let bytes = c.args.bytes.now in
    let after = c.in-Some.after.now in
    let texts : map now c.push_items.new.items.items ≡ map form (l.read ++ values) = found.4 ∙ ap (λ ts. ts ++ map form values) l.texts ∙ sym (map-append form l.read values) in
    let start : c.len.result ≡ length l.read = omega (arith, c.len.ensures, c.loop.items.ok.0, length-map c.loop.items.items now, ap length l.texts, length-map l.read form) in
    let end : c.len-in-loop.result ≡ length (l.read ++ values) = omega (arith, c.len-in-loop.ensures, c.push_items.new.items.ok.0, length-map c.push_items.new.items.items now, ap length texts, length-map (l.read ++ values) form) in
    record {
      lists = l.lists ++ values ∷ [];
      many = omega (arith, length-append l.lists (values ∷ []), l.many);
      stand = subst (Stand IsReply bytes after) (sym (map_push (λ (items : List Reply). array (replies_of items)) l.lists values))
          (one_more_stands IsReply bytes c.loop.rest.now after (form one) (arrays_of l.lists) one l.stand found.2 found.3);
      read = l.read ++ values;
      texts = texts;
      spans = rw (c.in_ok-push.ensures.items, c.in_ok-push-2.ensures.items, start, end) (more_spans l.lists l.read c.loop.starts.items c.loop.ends.items values l.spans);
    }

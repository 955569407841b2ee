-- What the replies to the parts of one command make is the reply to the command.
use Rattle.std.proofs.Common.{◌≡◌, ℕ, List, [], ◌∷◌, ◌++◌, Result, Ok, length, refl, sym, ap, subst, ◌∙◌, arith}
use Rattle.std.proofs.lemmas.Grind.{common_steps}
use Rattle.resp_core.specs.Reply.{Reply}
use Rattle.resp.specs.Reading.{answer_at}
use Rattle.resp.specs.declared.reading.TheConstants.{MAX_LEVELS}
use Rattle.resp.proofs.Grammar.{answer_again}
use Rattle.redis_routing.specs.Split.{Split, IsSplit}
use Rattle.redis_cluster.specs.MultiKey.{ReplyForm}
use Rattle.redis_cluster.specs.Plan.{ArePartsAnswered, IsMadeOfParts}
use Rattle.redis_cluster.specs.Unsplit.{TupleResult, reply_by}
use Rattle.redis_cluster.proofs.Joined.{outcome_is_unsplit}
use Rattle.redis_bytes.specs.Replies.{AreReplies, AreCombined, IsReply}
use Rattle.resp_core.specs.declared.error.ErrorKind.{ErrorKind}
use Rattle.resp.specs.Forms.{Answer, form}
use Rattle.resp.specs.declared.fault.Fault.{Fault}
use Rattle.redis_cluster.proofs.Made.{as_many}

abbrev value_of : Reply → Answer
value_of reply = Ok reply

abbrev found : Answer → List ℕ → Result (Answer × List ℕ) Fault
found answer rest = Ok (answer, rest)

abbrev made_of : Reply → Result Reply ErrorKind
made_of reply = Ok reply

same_found : (r s : Reply) (rest more : List ℕ) → found (value_of r) rest ≡ found (value_of s) more → (r ≡ s) × (rest ≡ more)
same_found r s rest more e = grind (arith, common_steps)

-- one reply stands at the front
one_reply : (r s : Reply) (front form rest more : List ℕ) → IsReply r front → IsReply s form → front ++ rest ≡ form ++ more → (r ≡ s) × (rest ≡ more)
one_reply r s front form rest more is too same =
    same_found r s rest more (sym (answer_again MAX_LEVELS (value_of r) front rest is) ∙ ap (answer_at MAX_LEVELS) same ∙ answer_again MAX_LEVELS (value_of s) form more too)

-- bytes are just so many replies in one way
pub one_reading : (rs ss : List Reply) (bytes : List ℕ) → length rs ≡ length ss → AreReplies rs bytes → AreReplies ss bytes → rs ≡ ss
one_reading [] [] bytes same are too = refl
one_reading [] (s ∷ ss) bytes same are too = absurd (omega (arith, same))
one_reading (r ∷ rs) [] bytes same are too = absurd (omega (arith, same))
one_reading (r ∷ rs) (s ∷ ss) bytes same are too =
    let first = one_reply r s are.0 too.0 are.1 too.1 are.3 too.3 (sym are.2 ∙ too.2) in
    ap (λ x. x ∷ rs) first.0 ∙ ap (λ xs. s ∷ xs) (one_reading rs ss too.1 (omega (arith, same)) (subst (AreReplies rs) first.1 are.4) too.4)

same_value : (r s : Reply) → made_of r ≡ made_of s → r ≡ s
same_value r s e = cc

pub combined_unsplit : (split : Split) → IsSplit split → (bytes combined : List ℕ) → AreCombined split bytes combined → (reply_form : ReplyForm) (results : List TupleResult) (parts : List Reply)
    → ArePartsAnswered split reply_form results parts → AreReplies parts bytes → combined ≡ form (reply_by reply_form results)
combined_unsplit split held bytes combined are reply_form results parts answered read =
    let same = one_reading are.replies parts bytes (are.answered.all ∙ sym (as_many split reply_form results parts answered)) are.answered.are read in
    let made = subst (λ rs. IsMadeOfParts split rs (Ok are.one)) same are.made in
    are.written ∙ ap form (same_value are.one (reply_by reply_form results) (outcome_is_unsplit split reply_form results parts (Ok are.one) held answered made))

-- Answers one after the other.
use Rattle.std.proofs.Common.{◌≡◌, ◌-◌, ◌<◌, ℕ, List, [], ◌∷◌, ◌++◌, length, refl, sym, ap, ◌∙◌}
use Rattle.std.proofs.lemmas.List.{length-map, map-append}
use Rattle.resp_core.specs.Answer.{Answer}
use Rattle.redis_bytes.specs.Answers.{AreUnreadAnswers, IsNoAnswer, StandAsAnswers, WireAnswer, answer_of_wire}
use Rattle.redis_bytes.specs.Replies.{AreFollowed, IsAnswer}
use Rattle.redis_bytes.specs.declared.answers_fault.AnswersFault.{AnswersFault}
use Rattle.redis_bytes.specs.declared.answers_fault.AnswersFault.TheVariants as faults
use Rattle.redis_bytes.proofs.Sequence.{Stand, first_unread, followed, one_more_stands}

pub no_answers : (bytes : List ℕ) → StandAsAnswers bytes bytes []
no_answers bytes = record { said = []; front = []; bytes_are = refl; are = refl; given_are = refl }

module _ (bytes rest : List ℕ) (given : List Answer) (so_far : StandAsAnswers bytes rest given) where
  as_said : Stand IsAnswer bytes rest so_far.said
  as_said = record { front = so_far.front; bytes_are = so_far.bytes_are; are = so_far.are }

  as_many : length so_far.said ≡ length given
  as_many = sym (length-map so_far.said answer_of_wire) ∙ sym (ap length so_far.given_are)

  -- one answer more
  pub one_more_answer : (after form : List ℕ) (said : WireAnswer) (answer : Answer) → rest ≡ form ++ after → IsAnswer said form → answer ≡ answer_of_wire said → StandAsAnswers bytes after (given ++ answer ∷ [])
  one_more_answer after form said answer next is taken =
      let both = one_more_stands IsAnswer bytes rest after form so_far.said said as_said next is in
      record {
        said = so_far.said ++ said ∷ [];
        front = both.front;
        bytes_are = both.bytes_are;
        are = both.are;
        given_are = ap (λ (x : Answer). given ++ x ∷ []) taken
            ∙ ap (λ (l : List Answer). l ++ answer_of_wire said ∷ []) so_far.given_are
            ∙ sym (map-append answer_of_wire so_far.said (said ∷ []));
      }

  -- the answer of this number is the first that is not read
  pub unread_answer : (count number : ℕ) → length given ≡ number → number < count → (fault : AnswersFault) → IsNoAnswer number rest fault → AreUnreadAnswers count bytes fault
  unread_answer count number long few faults.Memory why = tt
  unread_answer count number long few faults.NoForm why = absurd why
  unread_answer count number long few (faults.Reply n f) why = first_unread IsAnswer (λ k left. IsNoAnswer k left (faults.Reply n f)) count number bytes rest so_far.said as_said (as_many ∙ long) few why
  unread_answer count number long few (faults.AfterReplies n) why = absurd why

  -- more bytes follow the answers
  pub answers_followed : (count : ℕ) → length given ≡ count → 0 < length rest → AreFollowed IsAnswer count bytes (length bytes - length rest)
  answers_followed count every some = followed IsAnswer count bytes rest so_far.said as_said (as_many ∙ every) some

-- Replies one after the other.
use Rattle.std.proofs.Common.{◌≡◌, ℕ, ◌-◌, ◌<◌, ◌^◌, List, [], ◌∷◌, ◌++◌, length, append_assoc, append-nil, refl, sym, ap, subst, ◌∙◌, arith}
use Rattle.std.proofs.lemmas.List.{length-append}
use Rattle.resp_core.specs.Reply.{Reply}
use Rattle.resp.specs.Forms.{InOrder}
use Rattle.redis_bytes.specs.declared.fault.BytesFault.{BytesFault}
use Rattle.redis_bytes.specs.declared.fault.BytesFault.TheVariants as faults
use Rattle.std.specs.List.{AllByRecursion}
use Rattle.redis_bytes.specs.Replies.{IsReply, AreReplies, IsNoValue, IsFirstUnread, IsWritable, AreFollowed, AreUnread}
use Rattle.redis_bytes.proofs.Formed.{replies_formed}

abbrev none : List Reply
none = []

module _ {Item : Type 0} (IsItem : Item → List ℕ → Type 0) where
  -- items that stand at the front
  pub record Stand (bytes rest : List ℕ) (items : List Item) : Type 0 where
    pub front : List ℕ
    pub bytes_are : bytes ≡ front ++ rest
    pub are : InOrder IsItem items front

  pub none_stand : (bytes : List ℕ) → Stand bytes bytes []
  none_stand bytes = record { front = []; bytes_are = refl; are = refl }

  in_order_push : (items : List Item) (item : Item) (front form : List ℕ) → InOrder IsItem items front → IsItem item form → InOrder IsItem (items ++ item ∷ []) (front ++ form)
  in_order_push [] item front form are is = (form, [], ap (λ (t : List ℕ). t ++ form) are ∙ sym (append-nil form), is, refl)
  in_order_push (x ∷ items) item front form are is = (
    are.0,
    are.1 ++ form,
    ap (λ (t : List ℕ). t ++ form) are.2 ∙ append_assoc are.0 are.1 form,
    are.3,
    in_order_push items item are.1 form are.4 is,
  )

  pub one_more_stands : (bytes rest after form : List ℕ) (items : List Item) (item : Item) → Stand bytes rest items → rest ≡ form ++ after → IsItem item form → Stand bytes after (items ++ item ∷ [])
  one_more_stands bytes rest after form items item so_far next is = record {
    front = so_far.front ++ form;
    bytes_are = so_far.bytes_are ∙ ap (λ (t : List ℕ). so_far.front ++ t) next ∙ sym (append_assoc so_far.front form after);
    are = in_order_push items item so_far.front form so_far.are is;
  }

  -- the item of this number is the first that is not read
  pub first_unread : (Why : ℕ → List ℕ → Type 0) (count number : ℕ) (bytes rest : List ℕ) (items : List Item) → Stand bytes rest items → length items ≡ number → number < count → Why number rest → IsFirstUnread IsItem Why count bytes
  first_unread Why count number bytes rest items so_far long few next = record {
    items = items;
    front = so_far.front;
    rest = rest;
    bytes_are = so_far.bytes_are;
    are = so_far.are;
    few = omega (arith, long, few);
    next = subst (λ n. Why n rest) (sym long) next;
  }

  pub followed : (count : ℕ) (bytes rest : List ℕ) (items : List Item) → Stand bytes rest items → length items ≡ count → 0 < length rest → AreFollowed IsItem count bytes (length bytes - length rest)
  followed count bytes rest items so_far every some = record {
    items = items;
    front = so_far.front;
    rest = rest;
    bytes_are = so_far.bytes_are;
    are = so_far.are;
    all = every;
    end_is = omega (arith, ap (length {A = ℕ}) so_far.bytes_are, length-append so_far.front rest);
    more = some;
  }

-- replies that are all of the bytes begin with those that were read
pub record Goes (all : List Reply) (rest : List ℕ) (replies : List Reply) : Type 0 where
  pub later : List Reply
  pub all_are : all ≡ replies ++ later
  pub are : AreReplies later rest

abbrev pub Only : ℕ → List ℕ → List ℕ → List Reply → Type 0
Only count bytes rest replies = (all : List Reply) → length all ≡ count → AreReplies all bytes → Goes all rest replies

-- the reply that stands first in what is left is this one, with this after it
abbrev pub IsNext : List ℕ → (Reply → List ℕ → Type 0) → Type 0
IsNext rest Found = (reply : Reply) (form after : List ℕ) → IsReply reply form → rest ≡ form ++ after → Found reply after

pub only_more : (count : ℕ) (bytes rest left : List ℕ) (replies : List Reply) (reply : Reply) → Only count bytes rest replies → length replies < count
    → IsNext rest (λ r after. (reply ≡ r) × (left ≡ after)) → Only count bytes left (replies ++ reply ∷ [])
only_more count bytes rest left replies reply so_far few next = λ all long are.
    let o = so_far all long are in
    goes all o.later o.all_are o.are long
  where
    goes : (all later : List Reply) → all ≡ replies ++ later → AreReplies later rest → length all ≡ count → Goes all left (replies ++ reply ∷ [])
    goes all [] is are long = absurd (omega (arith, few, long, ap (length {A = Reply}) is, length-append replies none))
    goes all (r ∷ later) is are long =
        let found = next r are.0 are.1 are.3 are.2 in
        record {
          later = later;
          all_are = is ∙ ap (λ (x : Reply). replies ++ x ∷ later) (sym found.0) ∙ sym (append_assoc replies (reply ∷ []) later);
          are = subst (AreReplies later) (sym found.1) are.4;
        }

pub only_fails : {P : Type 0} (count : ℕ) (bytes rest : List ℕ) (replies : List Reply) → Only count bytes rest replies → length replies < count
    → IsNext rest (λ r after. P) → (all : List Reply) → length all ≡ count → AreReplies all bytes → P
only_fails {P = P} count bytes rest replies so_far few next all long are =
    let o = so_far all long are in
    fails o.later o.all_are o.are
  where
    fails : (later : List Reply) → all ≡ replies ++ later → AreReplies later rest → P
    fails [] is a = absurd (omega (arith, few, long, ap (length {A = Reply}) is, length-append replies none))
    fails (r ∷ later) is a = next r a.0 a.1 a.3 a.2

-- ---- the fault

pub unread : (count number : ℕ) (bytes rest : List ℕ) (replies : List Reply) (fault : BytesFault) → Stand IsReply bytes rest replies → length replies ≡ number → number < count → IsNoValue number rest fault → AreUnread count bytes fault
unread count number bytes rest replies faults.Memory so_far long few next = tt
unread count number bytes rest replies (faults.Request f) so_far long few next = absurd next
unread count number bytes rest replies (faults.AfterRequest n) so_far long few next = absurd next
unread count number bytes rest replies faults.NotMultiKey so_far long few next = absurd next
unread count number bytes rest replies (faults.Reply n f) so_far long few next = first_unread IsReply (λ k left. IsNoValue k left (faults.Reply n f)) count number bytes rest replies so_far long few next
unread count number bytes rest replies (faults.Error n text) so_far long few next = first_unread IsReply (λ k left. IsNoValue k left (faults.Error n text)) count number bytes rest replies so_far long few next
unread count number bytes rest replies (faults.AfterReplies n) so_far long few next = absurd next
unread count number bytes rest replies (faults.Unfit kind) so_far long few next = absurd next
unread count number bytes rest replies faults.LineFeedInHost so_far long few next = absurd next
unread count number bytes rest replies (faults.BadName _) so_far long few next = absurd next

-- what stands at the front can be written
pub stand_writable : (bytes rest : List ℕ) (replies : List Reply) → length bytes < 2 ^ 63 → Stand IsReply bytes rest replies → AllByRecursion IsWritable replies
stand_writable bytes rest replies few stand =
    let long = ap (length {A = ℕ}) stand.bytes_are ∙ length-append stand.front rest in
    replies_formed replies stand.front (omega (arith, few, long)) stand.are

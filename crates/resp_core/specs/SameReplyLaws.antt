-- `same_reply` holds exactly of equal replies.
use Rattle.std.proofs.Common.{◌≡◌, Bool, true, false, ◌&&◌, Decides, refl, ap, subst}
use Rattle.std.proofs.lemmas.Bool.{false≢true}
use Rattle.std.proofs.lemmas.Bool.Decides.{Decides-int_eq}
use Rattle.std.specs.Cmp.Lexicographic.{bytes_decides}
use Rattle.std.specs.Cmp.{decided, IsEquivalence}
use Rattle.resp_core.specs.Reply.{Reply, Replies, Pairs, nil, int, bulk, array, simple, okay, pairs, no_replies, reply, no_pairs, pair}
use Rattle.resp_core.specs.SameReply.{same_reply, same_replies, same_pairs}

mutual
  same_reply-refl : (r : Reply) → same_reply r r ≡ true
  same_reply-refl nil = refl
  same_reply-refl (int n) = (Decides-int_eq n n).1 refl
  same_reply-refl (bulk bytes) = (bytes_decides bytes bytes).1 refl
  same_reply-refl (array items) = same_replies-refl items
  same_reply-refl (simple text) = (bytes_decides text text).1 refl
  same_reply-refl okay = refl
  same_reply-refl (pairs items) = same_pairs-refl items

  same_replies-refl : (rs : Replies) → same_replies rs rs ≡ true
  same_replies-refl no_replies = refl
  same_replies-refl (reply r rs) = λ i. same_reply-refl r i && same_replies-refl rs i

  same_pairs-refl : (ps : Pairs) → same_pairs ps ps ≡ true
  same_pairs-refl no_pairs = refl
  same_pairs-refl (pair k v ps) =
      λ i. same_reply-refl k i && same_reply-refl v i && same_pairs-refl ps i

and-first : (b c : Bool) → (b && c) ≡ true → b ≡ true
and-first true c h = refl
and-first false c h = h

and-second : (b c : Bool) → (b && c) ≡ true → c ≡ true
and-second true c h = h
and-second false c h = absurd (false≢true h)

mutual
  same_reply-tells : (a b : Reply) → same_reply a b ≡ true → a ≡ b
  same_reply-tells nil nil h = refl
  same_reply-tells (int m) (int n) h = ap int ((Decides-int_eq m n).0 h)
  same_reply-tells (bulk x) (bulk y) h = ap bulk ((bytes_decides x y).0 h)
  same_reply-tells (array x) (array y) h = ap array (same_replies-tells x y h)
  same_reply-tells (simple x) (simple y) h = ap simple ((bytes_decides x y).0 h)
  same_reply-tells okay okay h = refl
  same_reply-tells (pairs x) (pairs y) h = ap pairs (same_pairs-tells x y h)
  same_reply-tells a b h = absurd (false≢true h)

  same_replies-tells : (a b : Replies) → same_replies a b ≡ true → a ≡ b
  same_replies-tells no_replies no_replies h = refl
  same_replies-tells (reply x xs) (reply y ys) h =
      λ i. reply (same_reply-tells x y (and-first _ _ h) i)
      (same_replies-tells xs ys (and-second (same_reply x y) _ h) i)
  same_replies-tells a b h = absurd (false≢true h)

  same_pairs-tells : (a b : Pairs) → same_pairs a b ≡ true → a ≡ b
  same_pairs-tells no_pairs no_pairs h = refl
  same_pairs-tells (pair k v ps) (pair l w qs) h =
      let keys_and_values = and-first (same_reply k l && same_reply v w) _ h in
      λ i. pair (same_reply-tells k l (and-first _ _ keys_and_values) i)
      (same_reply-tells v w (and-second (same_reply k l) _ keys_and_values) i)
      (same_pairs-tells ps qs (and-second (same_reply k l && same_reply v w) _ h) i)
  same_pairs-tells a b h = absurd (false≢true h)

pub same_reply-Decides : (a b : Reply) → Decides (same_reply a b) (a ≡ b)
same_reply-Decides a b =
    (same_reply-tells a b, λ e. subst (λ r. same_reply a r ≡ true) e (same_reply-refl a))

pub same_reply-equivalence : IsEquivalence same_reply
same_reply-equivalence = decided same_reply same_reply-Decides

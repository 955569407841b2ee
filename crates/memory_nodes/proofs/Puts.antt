-- What stands at keys after changes at one key.
use Rattle.std.proofs.Common.{◌≡◌, List, [], ◌∷◌, ℕ, Bool, true, false, cond, Option, Some, None, option_map, refl, ap, ◌∙◌}
use Rattle.std.specs.Option.{option_and}
use Rattle.std.specs.Str.{bytes_eq}
use Rattle.std.proofs.lemmas.Slice.Eq.{bytes_eq-Decides}
use Rattle.resp_core.proofs.Cases.{by_test}
use Rattle.redis_cluster.specs.Unsplit.{Keyspace, put}
use Rattle.memory_nodes.specs.Undo.{back}

module _ {X : Type 0} where
  pub put-there : (key : List ℕ) (x : Option X) (ks : Keyspace X) → put key x ks key ≡ x
  put-there key x ks = ap (λ b. cond b x (ks key)) ((bytes_eq-Decides key key).1 refl)

  -- the later of two changes at one key stays
  pub put-put : (key : List ℕ) (x y : Option X) (ks : Keyspace X) → put key y (put key x ks) ≡ put key y ks
  put-put key x y ks = λ i other. chosen (bytes_eq key other) (ks other) i
    where
      chosen : (b : Bool) (z : Option X) → cond b y (cond b x z) ≡ cond b y z
      chosen true z = refl
      chosen false z = refl

  -- a key that is given what it has
  pub put-same : (key : List ℕ) (ks : Keyspace X) → put key (ks key) ks ≡ ks
  put-same key ks = λ i other. at_other other i
    where
      at_other : (other : List ℕ) → put key (ks key) ks other ≡ ks other
      at_other other = by_test (bytes_eq key other) (λ e. rw e (ap ks ((bytes_eq-Decides key other).0 e))) (λ e. rw e refl)

  -- a change at a key ends where the key is given what it had
  pub put-restored : (key : List ℕ) (w r : Option X) (new old : Keyspace X) → new ≡ put key w old → r ≡ old key → put key r new ≡ old
  put-restored key w r new old is was = ap (λ ks. put key r ks) is ∙ put-put key w r old ∙ ap (λ x. put key x old) was ∙ put-same key old

  -- what stood there before goes back
  pub back-there : (key : List ℕ) (x : X) (before : Option X) (new old : Keyspace X) → new ≡ put key (Some x) old → before ≡ old key → back before (new key) ≡ old key
  back-there key x before new old is was = ap (λ ks. back before (ks key)) is ∙ ap (back before) (put-there key (Some x) old) ∙ back-some before ∙ was
    where
      back-some : (before : Option X) → back before (Some x) ≡ before
      back-some None = refl
      back-some (Some y) = refl

  -- changes at no bytes and at some, in either order
  pub put-apart : (byte : ℕ) (bytes : List ℕ) (x y : Option X) (ks : Keyspace X) → put [] x (put (byte ∷ bytes) y ks) ≡ put (byte ∷ bytes) y (put [] x ks)
  put-apart byte bytes x y ks = λ i other. at_other other i
    where
      at_other : (other : List ℕ) → put [] x (put (byte ∷ bytes) y ks) other ≡ put (byte ∷ bytes) y (put [] x ks) other
      at_other [] = refl
      at_other (first ∷ others) = refl

  -- what goes back, by `Option::and`
  pub and-back : (before now : Option X) → option_and now before ≡ back before now
  and-back None None = refl
  and-back None (Some y) = refl
  and-back (Some x) None = refl
  and-back (Some x) (Some y) = refl

module _ {X Y : Type 0} (f : X → Y) where
  -- a change, seen by a function of what stands at each key
  pub map-put : (key : List ℕ) (x : Option X) (new old : Keyspace X) → new ≡ put key x old → (λ other. option_map f (new other)) ≡ put key (option_map f x) (λ other. option_map f (old other))
  map-put key x new old is = ap (λ ks. λ other. option_map f (ks other)) is ∙ (λ i other. chosen (bytes_eq key other) (old other) i)
    where
      chosen : (b : Bool) (z : Option X) → option_map f (cond b x z) ≡ cond b (option_map f x) (option_map f z)
      chosen true z = refl
      chosen false z = refl

  pub map-back : (key : List ℕ) (before : Option X) (new old : Keyspace X) → new ≡ put key (back before (old key)) old → (λ other. option_map f (new other)) ≡ put key (back (option_map f before) (option_map f (old key))) (λ other. option_map f (old other))
  map-back key before new old is = map-put key (back before (old key)) new old is ∙ ap (λ x. put key x (λ other. option_map f (old other))) (mapped before (old key))
    where
      mapped : (b now : Option X) → option_map f (back b now) ≡ back (option_map f b) (option_map f now)
      mapped None now = refl
      mapped (Some b) None = refl
      mapped (Some b) (Some now) = refl

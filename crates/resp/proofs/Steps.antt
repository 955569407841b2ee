-- Steps of reading.
use Rattle.std.proofs.Common.{◌≡◌, ℕ, Bool, true, false, ◌&&◌, cond, List, Option, Some, None, Result, Ok, Err, refl, ap, ◌⊎◌, inl, inr, arith}
use Rattle.resp.specs.declared.fault.Fault.{Fault}
use Rattle.resp.specs.Reading.{◌>>=◌, or_malformed, rest_of}

pub bind_ok : {A B : Type 0} (r : Result A Fault) (f : A → Result B Fault) (y : B) → (r >>= f) ≡ Ok y → (x : A) × (r ≡ Ok x) × (f x ≡ Ok y)
bind_ok (Ok x) f y e = (x, refl, e)
bind_ok (Err d) f y e = absurd cc

abbrev pub done : {A : Type 0} → A → Result A Fault
done x = Ok x

abbrev pub failed : {A : Type 0} → Fault → Result A Fault
failed e = Err e

pub ok_is : {A : Type 0} (x y : A) → done x ≡ done y → x ≡ y
ok_is x y e = cc

-- which way a test went
pub chosen : {A : Type 0} (b : Bool) (x y z : A) → cond b x y ≡ z → ((b ≡ true) × (x ≡ z)) ⊎ ((b ≡ false) × (y ≡ z))
chosen true x y z e = inl (refl, e)
chosen false x y z e = inr (refl, e)

pub some_of : {A : Type 0} (o : Option A) (x : A) → or_malformed o ≡ done x → o ≡ Some x
some_of None x e = absurd cc
some_of (Some y) x e = cc

pub both : (a b : Bool) → (a && b) ≡ true → (a ≡ true) × (b ≡ true)
both a b h1 = grind (arith)

-- ---- what follows alone

pub rest_read : {A E : Type 0} (r : Result (A × List ℕ) E) (rest : List ℕ) → rest_of r ≡ Ok rest → (x : A) × (r ≡ Ok (x, rest))
rest_read (Ok x) rest e =
    let same : x.1 ≡ rest = cc in
    (x.0, ap (λ (t : List ℕ). Ok (x.0, t)) same)
rest_read (Err s) rest e = absurd cc

pub rest_stopped : {A E : Type 0} (r : Result (A × List ℕ) E) (stop : E) → rest_of r ≡ Err stop → r ≡ Err stop
rest_stopped (Ok x) stop e = absurd cc
rest_stopped (Err s) stop e = cc

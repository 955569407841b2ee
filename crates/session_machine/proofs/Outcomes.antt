-- What holds of one case of an outcome.
use Rattle.std.proofs.Common.{Option, None, Some, Ok, Err}
use Rattle.std.specs.Prelude.{Result, OnOk, OnErr, IfOk, IfSome, IfNone}

pub on_ok : {A E P Q : Type 0} (r : Result A E) → OnOk r P → (P → Q) → OnOk r Q
on_ok (Ok a) p f = f p
on_ok (Err e) p f = p

pub on_err : {A E P Q : Type 0} (r : Result A E) → OnErr r P → (P → Q) → OnErr r Q
on_err (Ok a) p f = p
on_err (Err e) p f = f p

pub if_ok : {A E : Type 0} {P Q : A → Type 0} (r : Result A E) → IfOk r P → ((a : A) → P a → Q a) → IfOk r Q
if_ok (Ok a) p f = f a p
if_ok (Err e) p f = p

pub if_some : {A : Type 0} {P Q : A → Type 0} (o : Option A) → IfSome o P → ((a : A) → P a → Q a) → IfSome o Q
if_some (Some a) p f = f a p
if_some None p f = p

pub if_none : {A P Q : Type 0} (o : Option A) → IfNone o P → (P → Q) → IfNone o Q
if_none (Some a) p f = p
if_none None p f = f p

pub by_result : {A E P Q R : Type 0} (r : Result A E) → OnOk r P → OnErr r Q → (P → R) → (Q → R) → R
by_result (Ok a) p q f g = f p
by_result (Err e) p q f g = g q

pub by_value : {A E Q R : Type 0} {P : A → Type 0} (r : Result A E) → IfOk r P → OnErr r Q → ((a : A) → P a → R) → (Q → R) → R
by_value (Ok a) p q f g = f a p
by_value (Err e) p q f g = g q

-- What nodes would hold by a meaning, and whether they answered by it. `after` is the keyspace after
-- one send, and `IsBy` says whether its outcome is one by the meaning. `took` has flags for each
-- send, by its number: they say what of it took effect if no reply came.
use Rattle.std.specs.Prelude.{ℕ, suc, List, [], ◌∷◌, ⊤}

module _ {F X K : Type 0} (after : F → X → K → K) where
  -- the keyspace after all that was sent
  abbrev pub replay : (ℕ → F) → List X → K → K
  replay took [] keyspace = keyspace
  replay took (x ∷ xs) keyspace =
      replay (λ number. took (suc number)) xs (after (took 0) x keyspace)

  -- each send had an outcome by the meaning
  abbrev pub AreKept : (F → X → K → Type 0) → (ℕ → F) → List X → K → Type 0
  AreKept IsBy took [] keyspace = ⊤
  AreKept IsBy took (x ∷ xs) keyspace =
      IsBy (took 0) x keyspace
      × AreKept IsBy (λ number. took (suc number)) xs (after (took 0) x keyspace)

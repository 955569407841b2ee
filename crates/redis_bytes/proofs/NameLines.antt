-- The fields of a line that registers a name, and such lines one after the other.
use Rattle.std.proofs.Common.{◌≡◌, ℕ, ◌-◌, ◌+◌, ◌<◌, ◌≤◌, List, [], ◌∷◌, ◌++◌, map, length, take, take-append-drop, drop, get_or, Bor, Some, arith, refl, sym, ap, subst, ◌∙◌}
use Rattle.std.proofs.lemmas.List.{drop_more, get_or-map, length-map, length-take-le, take_more, take_rest}
use Rattle.redis_routing.specs.Lookup.{lookup_name}
use Rattle.redis_routing.specs.Registry.{Registrations, Registered}
use Rattle.redis_bytes.specs.NameLines.{Registers, Register, IsFirstBadName, fields_of, IsMultiLine, multi_word, name_lines, pattern_words, policy_words, name_of_words}

-- too few fields
pub too_few : (fields : List (Bor (List ℕ))) (old next : Registrations) → length fields < 3 → ¬ (Registers (map (λ f. f.now) fields) old next)
too_few [] old next l h = h.asks
too_few (a ∷ []) old next l h = h.asks
too_few (a ∷ b ∷ []) old next l h = h.asks
too_few (a ∷ b ∷ c ∷ rest) old next l h = absurd (omega (arith, l))

-- enough, which say what to register
pub asks_to : (fields : List (Bor (List ℕ))) (d : Bor (List ℕ)) (name : List ℕ) (registered : Registered) → 3 ≤ length fields → (get_or fields 0 d).now ≡ multi_word → lookup_name pattern_words (get_or fields 1 d).now ≡ Some registered.0
    → lookup_name policy_words (get_or fields 2 d).now ≡ Some registered.1 → name_of_words (map (λ f. f.now) (take (length fields - 3) (drop 3 fields))) ≡ Some name → IsMultiLine (map (λ f. f.now) fields) name registered
asks_to [] d name registered l first pattern policy words = absurd (omega (arith, l))
asks_to (a ∷ []) d name registered l first pattern policy words = absurd (omega (arith, l))
asks_to (a ∷ b ∷ []) d name registered l first pattern policy words = absurd (omega (arith, l))
asks_to (a ∷ b ∷ c ∷ rest) d name registered l first pattern policy words = (first, pattern, policy, rw (take_rest (a ∷ b ∷ c ∷ rest) 3) at words)

one_more : (lines : List (List (List ℕ))) (line : List (List ℕ)) (old mid new : Registrations) → Register lines old mid → Registers line mid new → Register (lines ++ line ∷ []) old new
one_more [] line old mid new same h = (new, subst (λ (m : Registrations). Registers line m new) same h, refl)
one_more (first ∷ lines) line old mid new (between, h, rest) more = (between, h, one_more lines line between mid new rest more)

-- the fields of lines
abbrev pub fields_in : List (Bor (List ℕ)) → List (List (List ℕ))
fields_in lines = map fields_of (map (λ l. l.now) lines)

module _ (lines : List (Bor (List ℕ))) (i : ℕ) (lt : i < length lines) where
  pub is_line : i < length (fields_in lines)
  is_line = omega (arith, lt, length-map (map (λ (l : Bor (List ℕ)). l.now) lines) fields_of, length-map lines (λ (l : Bor (List ℕ)). l.now))

  pub fields_at : (d : Bor (List ℕ)) (e : List (List ℕ)) → fields_of (get_or lines i d).now ≡ get_or (fields_in lines) i e
  fields_at d e =
      ap fields_of (sym (get_or-map (λ (l : Bor (List ℕ)). l.now) lines i d d.now lt))
      ∙ sym (get_or-map fields_of (map (λ (l : Bor (List ℕ)). l.now) lines) i d.now e (omega (arith, lt, length-map lines (λ (l : Bor (List ℕ)). l.now))))

module _ (lines : List (List (List ℕ))) (i : ℕ) (fields : List (List ℕ)) (lt : i < length lines) (is : fields ≡ get_or lines i fields) where
  -- the next line registers its name
  pub register_next : (old mid new : Registrations) → Register (take i lines) old mid → Registers fields mid new → Register (take (i + 1) lines) old new
  register_next old mid new before next =
      let longer : take (i + 1) lines ≡ take i lines ++ fields ∷ [] = take_more lines i fields lt ∙ ap (λ (x : List (List ℕ)). take i lines ++ x ∷ []) (sym is) in
      subst (λ (ls : List (List (List ℕ))). Register ls old new) (sym longer) (one_more (take i lines) fields old mid new before next)

  -- or it registers none
  pub bad_at : (text : List ℕ) (registered : Registrations) → lines ≡ name_lines text → Register (take i lines) [] registered → ((next : Registrations) → ¬ (Registers fields registered next)) → IsFirstBadName text i
  bad_at text registered of_text before none =
      record {
        good = take i lines;
        bad = fields;
        later = drop (i + 1) lines;
        split = sym of_text ∙ sym (take-append-drop i lines) ∙ ap (λ (ls : List (List (List ℕ))). take i lines ++ ls) (drop_more lines i fields lt ∙ ap (λ (x : List (List ℕ)). x ∷ drop (i + 1) lines) (sym is));
        registered = registered;
        before = before;
        none = none;
        counted = sym (length-take-le i lines (omega (arith, lt)));
      }

use Rattle.std.proofs.Common.{arith, ◌≡◌, ℕ, List, ◌∷◌, [], map, string_bytes, ◌≤◌, ◌-◌, length, get_or, take, drop, ap, ◌∙◌, sym, subst, codes}
use Rattle.std.proofs.lemmas.Grind.{common_steps}
use Rattle.std.specs.Prelude.{Option, Some, None, MatchOption}
use Rattle.std.proofs.lemmas.List.{take_rest}
use Rattle.slotroute_serve.specs.declared.direction.Direction.{Direction}
use Rattle.slotroute_serve.specs.Output.{IsUsage, IsDirected}
use Rattle.slotroute_serve.specs.Requests.{AsksFor}
use Rattle.slotroute_serve.specs.declared.request.Request.{Request}
use Rattle.slotroute_serve.proofs.request.request_of.Goals as goal

-- a list that is there is its first and the rest
first_and_rest : {A : Type 0} (f : A → List ℕ) (ws : List A) (a : A) → a ≡ get_or ws 0 a → 1 ≤ length ws → map f ws ≡ f a ∷ map f (take (length ws - 1) (drop 1 ws))
first_and_rest f [] a e h = absurd (omega arith)
first_and_rest f (x ∷ xs) a e h = rw (take_rest (x ∷ xs) 1) (ap (λ z. f z ∷ map f xs) (sym e))

not_directed : (rest : List (List ℕ)) → ((direction : Direction) → ¬ (IsDirected direction rest)) → ¬ (IsUsage (codes "run" ∷ rest))
not_directed rest none asked = grind (arith, common_steps)

asks_run : (ws rest : List (List ℕ)) (r : Option Request) → ws ≡ codes "run" ∷ rest → MatchOption r ((direction : Direction) → ¬ (IsDirected direction rest)) (AsksFor (codes "run" ∷ rest)) → MatchOption r (¬ (IsUsage ws)) (AsksFor ws)
asks_run ws rest None e h = subst (λ (w : List (List ℕ)). ¬ (IsUsage w)) (sym e) (not_directed rest h)
asks_run ws rest (Some request) e h = subst (λ (w : List (List ℕ)). AsksFor w request) (sym e) h

pub returns-in-run : goal.returns-in-run
returns-in-run c =
    asks_run (map string_bytes c.args.words.now) (map string_bytes (take (length c.args.words.now - 1) (drop 1 c.args.words.now))) c.run_request.result
    (first_and_rest string_bytes c.args.words.now c.word-item.result c.word-item.is c.in-len1-up.len_at_least ∙ ap (λ w. w ∷ map string_bytes (take (length c.args.words.now - 1) (drop 1 c.args.words.now))) (sym c.as_str.ensures.value ∙ c.in-run.is)) c.run_request.ensures

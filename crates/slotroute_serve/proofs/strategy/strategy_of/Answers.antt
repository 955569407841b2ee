use Rattle.std.proofs.Common.{arith, ◌≡◌, ◌∙◌, ℕ, List, codes, get_or, length, map, string_bytes, sym}
use Rattle.std.proofs.lemmas.Grind.{common_steps}
use Rattle.std.specs.Prelude.{Option, MatchOption}
use Rattle.slotroute_serve.specs.Output.{IsStrategyWord, NamesStrategy, IsRunBy}
use Rattle.slotroute_serve.specs.declared.strategy.StrategyName.{StrategyName}
use Rattle.slotroute_serve.proofs.strategy.strategy_of.Goals as goal

-- three words, of which the first is `run` and the last names the strategy, if it names one
run_by : {A : Type 0} (f : A → List ℕ) (ws : List A) (command word : A) (r : Option StrategyName) → command ≡ get_or ws 0 command → word ≡ get_or ws 2 word → length ws ≡ 3 → f command ≡ codes "run" → MatchOption r (¬ (IsStrategyWord (f word))) (NamesStrategy (f word))
    → MatchOption r ((strategy : StrategyName) → ¬ (IsRunBy strategy (map f ws))) (λ strategy. IsRunBy strategy (map f ws))
run_by f ws command word r h1 h2 h3 h4 h5 = grind (arith, common_steps)

pub returns-in-run : goal.returns-in-run
returns-in-run c =
    run_by string_bytes c.args.words.now c.command-item.result c.word-item.result c.named_strategy.result c.command-item.is c.word-item.is (omega (arith, c.in-len3.len_at_least, c.in-len3.len_below))
    (sym c.as_str.ensures.value ∙ c.in-run.is) (rw c.as_bytes.ensures.value at c.named_strategy.ensures)

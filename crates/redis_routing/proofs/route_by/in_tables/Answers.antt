use Rattle.std.proofs.Common.{Some, ap, ◌∙◌, arith}
use Rattle.std.specs.Prelude.{option_and_then}
use Rattle.redis_routing.specs.Places.{row_of}
use Rattle.redis_routing.specs.declared.places.TheConstants.{NAME_PLACES}
use Rattle.redis_routing.proofs.TableRows.{in_a_to_c, in_d_to_l, in_m_to_s, in_t_to_z, routing-NAMES, policy-NAMES}
use Rattle.redis_routing.proofs.route_by.in_tables.Goals as goal

pub returns-then-row-lt53-clause-routing : goal.returns-then-row-lt53-clause-routing
returns-then-row-lt53-clause-routing c =
    ap (option_and_then (λ row. Some row.0))
    (c.in_a_to_c.ensures ∙ in_a_to_c c.args.name.now c.row_of-row.result (c.row_of-row.ensures ∙ ap (row_of NAME_PLACES) c.name_hash.ensures) (omega arith))
    ∙ routing-NAMES c.args.name.now

pub returns-then-row-lt53-clause-policy : goal.returns-then-row-lt53-clause-policy
returns-then-row-lt53-clause-policy c =
    ap (option_and_then (λ row. row.1))
    (c.in_a_to_c.ensures ∙ in_a_to_c c.args.name.now c.row_of-row.result (c.row_of-row.ensures ∙ ap (row_of NAME_PLACES) c.name_hash.ensures) (omega arith))
    ∙ policy-NAMES c.args.name.now

pub returns-then-row-lt89-clause-routing : goal.returns-then-row-lt89-clause-routing
returns-then-row-lt89-clause-routing c =
    ap (option_and_then (λ row. Some row.0))
    (c.in_d_to_l.ensures ∙ in_d_to_l c.args.name.now c.row_of-row.result (c.row_of-row.ensures ∙ ap (row_of NAME_PLACES) c.name_hash.ensures) (omega arith) (omega arith))
    ∙ routing-NAMES c.args.name.now

pub returns-then-row-lt89-clause-policy : goal.returns-then-row-lt89-clause-policy
returns-then-row-lt89-clause-policy c =
    ap (option_and_then (λ row. row.1))
    (c.in_d_to_l.ensures ∙ in_d_to_l c.args.name.now c.row_of-row.result (c.row_of-row.ensures ∙ ap (row_of NAME_PLACES) c.name_hash.ensures) (omega arith) (omega arith))
    ∙ policy-NAMES c.args.name.now

pub returns-then-row-lt128-clause-routing : goal.returns-then-row-lt128-clause-routing
returns-then-row-lt128-clause-routing c =
    ap (option_and_then (λ row. Some row.0))
    (c.in_m_to_s.ensures ∙ in_m_to_s c.args.name.now c.row_of-row.result (c.row_of-row.ensures ∙ ap (row_of NAME_PLACES) c.name_hash.ensures) (omega arith) (omega arith))
    ∙ routing-NAMES c.args.name.now

pub returns-then-row-lt128-clause-policy : goal.returns-then-row-lt128-clause-policy
returns-then-row-lt128-clause-policy c =
    ap (option_and_then (λ row. row.1))
    (c.in_m_to_s.ensures ∙ in_m_to_s c.args.name.now c.row_of-row.result (c.row_of-row.ensures ∙ ap (row_of NAME_PLACES) c.name_hash.ensures) (omega arith) (omega arith))
    ∙ policy-NAMES c.args.name.now

pub returns-clause-routing : goal.returns-clause-routing
returns-clause-routing c =
    ap (option_and_then (λ row. Some row.0))
    (c.in_t_to_z.ensures ∙ in_t_to_z c.args.name.now c.row_of-row.result (c.row_of-row.ensures ∙ ap (row_of NAME_PLACES) c.name_hash.ensures) (omega arith))
    ∙ routing-NAMES c.args.name.now

pub returns-clause-policy : goal.returns-clause-policy
returns-clause-policy c =
    ap (option_and_then (λ row. row.1))
    (c.in_t_to_z.ensures ∙ in_t_to_z c.args.name.now c.row_of-row.result (c.row_of-row.ensures ∙ ap (row_of NAME_PLACES) c.name_hash.ensures) (omega arith))
    ∙ policy-NAMES c.args.name.now

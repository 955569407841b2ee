use Rattle.std.proofs.Common.{◌∙◌, rules}
use Rattle.redis_session.proofs.TableNames.{no_empty_name, in_a_to_g, in_h_to_i, in_j_to_l, in_m_to_r, in_s_to_u, in_x_to_z}
use Rattle.redis_session.proofs.kind.is_plain.Goals as goal

pub returns-then-is_empty : goal.returns-then-is_empty
returns-then-is_empty c = no_empty_name c.args.name.now (search rules)

pub returns-then-first-lt72 : goal.returns-then-first-lt72
returns-then-first-lt72 c = c.is_in.ensures ∙ in_a_to_g c.args.name.now c.if-first-lt72.true

pub returns-then-first-lt74 : goal.returns-then-first-lt74
returns-then-first-lt74 c = c.is_in-then-first-lt74.ensures ∙ in_h_to_i c.args.name.now c.if-first-lt72.false c.if-first-lt74.true

pub returns-then-first-lt77 : goal.returns-then-first-lt77
returns-then-first-lt77 c = c.is_in-then-first-lt77.ensures ∙ in_j_to_l c.args.name.now c.if-first-lt74.false c.if-first-lt77.true

pub returns-then-first-lt83 : goal.returns-then-first-lt83
returns-then-first-lt83 c = c.is_in-then-first-lt83.ensures ∙ in_m_to_r c.args.name.now c.if-first-lt77.false c.if-first-lt83.true

pub returns-then-first-lt88 : goal.returns-then-first-lt88
returns-then-first-lt88 c = c.is_in-then-first-lt88.ensures ∙ in_s_to_u c.args.name.now c.if-first-lt83.false c.if-first-lt88.true

pub returns : goal.returns
returns c = c.is_in-2.ensures ∙ in_x_to_z c.args.name.now c.if-first-lt88.false

use Rattle.vx_motion.proofs.laws.replaced_programs_run_the_same.Goals as goal
use Rattle.vx_motion.proofs.Context.{in_context}
use Rattle.vx_motion.proofs.Chains.{chain_law, steps_law}

pub returns-clause-one : goal.returns-clause-one
returns-clause-one c = in_context

pub returns-clause-chain : goal.returns-clause-chain
returns-clause-chain c = chain_law

pub returns-clause-steps : goal.returns-clause-steps
returns-clause-steps c = steps_law

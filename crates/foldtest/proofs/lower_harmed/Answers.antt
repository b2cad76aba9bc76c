-- `foldtest::lower_harmed` meets its contract: each test that led to a return is a test of the definition.
-- Assumes nothing.
use borrow.Author.Tests.{le-ltb, lt-ltb}
use Rattle.foldtest.proofs.lower_harmed.Goals as goal

pub returns-then-lowest-k : goal.returns-then-lowest-k
returns-then-lowest-k c = rw (le-ltb c.args.k c.args.lowest c.if-lowest-k.true)

pub is_harmed-requires : goal.is_harmed-requires
is_harmed-requires c = record { fact_1 = c.requires.fact_1; fact_2 = c.requires.fact_2; fact_3 = c.requires.fact_3; fact_4 = c.requires.fact_4 }

pub returns-then-is_harmed : goal.returns-then-is_harmed
returns-then-is_harmed c = rw (lt-ltb _ _ c.if-lowest-k.false, ← c.is_harmed.ensures, c.if-is_harmed.true)

pub returns : goal.returns
returns c = rw (lt-ltb _ _ c.if-lowest-k.false, ← c.is_harmed.ensures, c.if-is_harmed.false)

-- `with_search` meets its contract: each exit by its law. Assumes nothing.
use Rattle.state_words.proofs.Paths.{one_given, one_none, two_given, two_none, no_search}
use Rattle.state_words.proofs.with_search.Goals as goal

pub returns-in_err-x : goal.returns-in_err-x
returns-in_err-x c = one_none c.args.words.now c.if-words-eq1.true c.load.ensures c.in_err-x.was c.from_residual.ensures

pub returns-then-words-eq1 : goal.returns-then-words-eq1
returns-then-words-eq1 c = one_given c.args.words.now c.if-words-eq1.true c.load.ensures c.in_ok-x.was c.state_at.ensures

pub returns-in_err-x-2 : goal.returns-in_err-x-2
returns-in_err-x-2 c = two_none c.args.words.now c.if-words-eq1.false c.if-words-eq2.true c.load-then-words-eq2.ensures c.in_err-x-2.was c.from_residual-in_err-x-2.ensures

pub returns-then-words-eq2 : goal.returns-then-words-eq2
returns-then-words-eq2 c = two_given c.args.words.now c.if-words-eq1.false c.if-words-eq2.true c.load-then-words-eq2.ensures c.in_ok-x-2.was c.state_at-then-words-eq2.ensures

pub returns : goal.returns
returns c = no_search _ c.if-words-eq1.false c.if-words-eq2.false

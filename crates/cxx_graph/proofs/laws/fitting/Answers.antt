use Rattle.cxx_graph.proofs.Fitting.{fitted-fact, fitted-class, fitted-pattern, fitted-table}
use Rattle.cxx_graph.proofs.laws.fitting.Goals as goal

pub returns-clause-fact : goal.returns-clause-fact
returns-clause-fact c = fitted-fact

pub returns-clause-class : goal.returns-clause-class
returns-clause-class c = fitted-class

pub returns-clause-template : goal.returns-clause-template
returns-clause-template c = fitted-pattern

pub returns-clause-table : goal.returns-clause-table
returns-clause-table c = fitted-table

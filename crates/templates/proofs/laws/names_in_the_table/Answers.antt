use Rattle.templates.proofs.Shapes.{lighter, nested_child}
use Rattle.templates.proofs.TableLaws.{table-children, table-derived, table-name}
use Rattle.templates.proofs.laws.names_in_the_table.Goals as goal

pub returns-clause-table : goal.returns-clause-table
returns-clause-table c name known = record { children = table-children name known; derived = λ below. table-derived name below known; is_name = λ nested. table-name name known nested }

pub returns-clause-less : goal.returns-clause-less
returns-clause-less c name = record { lighter = λ names i child asked lt is. lighter name names i child asked lt is; nested = λ names i child asked lt is well. nested_child name names i child asked lt is well }

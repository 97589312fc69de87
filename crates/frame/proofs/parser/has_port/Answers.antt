-- `frame::parser::has_port` meets its contract: its test is the definition's, at the length of FHDR that it is given.
-- Assumes nothing.
use Rattle.frame.proofs.parser.has_port.Goals as goal

pub returns : goal.returns
returns c = rw c.requires

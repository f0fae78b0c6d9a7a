use Rattle.fx_c_parse.proofs.Exactly.{is_found, is_only, is_stopped, is_byte}
use Rattle.fx_c_parse.proofs.parser.parse.Goals as goal

pub returns-clause-found : goal.returns-clause-found
returns-clause-found c = is_found c.args.text.now c.read.result c.read.ensures

pub returns-clause-only : goal.returns-clause-only
returns-clause-only c = is_only c.args.text.now c.read.result c.read.ensures

pub returns-clause-syntax : goal.returns-clause-syntax
returns-clause-syntax c = is_stopped c.args.text.now c.read.result c.read.ensures

pub returns-clause-byte : goal.returns-clause-byte
returns-clause-byte c = is_byte c.args.text.now c.read.result c.read.ensures

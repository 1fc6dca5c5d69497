use Rattle.locating.proofs.find_code.Goals as goal

pub returns : goal.returns
returns c = c.find_or_default_code.ensures

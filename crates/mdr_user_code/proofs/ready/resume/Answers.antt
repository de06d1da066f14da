use Rattle.mdr_user_code.proofs.ready.resume.Goals as goal

pub returns : goal.returns
returns c = record { by = λ program side fuel r. c.resume.ensures.goes_on program side fuel r; ready = c.resume.ensures.ready }

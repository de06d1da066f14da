use Rattle.std.proofs.Common.{ap, sym}
use Rattle.mdr_core.specs.Services.{service_numbered}
use Rattle.mdr_exec.specs.Halves.{taking_by}
use Rattle.mdr_exec.proofs.MakingLaws.{other_taking}
use Rattle.mdr_exec.proofs.calling.taken_by.Goals as goal

pub returns-then-service-eq1 : goal.returns-then-service-eq1
returns-then-service-eq1 c = sym (ap (λ n. taking_by (service_numbered n)) c.if-service-eq1.true)

pub returns-then-service-eq2 : goal.returns-then-service-eq2
returns-then-service-eq2 c = sym (ap (λ n. taking_by (service_numbered n)) c.if-service-eq2.true)

pub returns-then-service-eq6 : goal.returns-then-service-eq6
returns-then-service-eq6 c = sym (ap (λ n. taking_by (service_numbered n)) c.if-service-eq6.true)

pub returns-then-service-eq9 : goal.returns-then-service-eq9
returns-then-service-eq9 c = sym (ap (λ n. taking_by (service_numbered n)) c.if-service-eq9.true)

pub returns : goal.returns
returns c = other_taking c.args.service c.if-service-eq1.false c.if-service-eq2.false c.if-service-eq6.false c.if-service-eq9.false

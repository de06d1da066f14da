use Rattle.std.proofs.Common.{ap, sym}
use Rattle.mdr_core.specs.Services.{service_numbered}
use Rattle.mdr_services.proofs.service.numbered.Goals as goal

pub returns-then-service-eq1 : goal.returns-then-service-eq1
returns-then-service-eq1 c = sym (ap service_numbered c.if-service-eq1.true)

pub returns-then-service-eq2 : goal.returns-then-service-eq2
returns-then-service-eq2 c = sym (ap service_numbered c.if-service-eq2.true)

pub returns-then-service-eq3 : goal.returns-then-service-eq3
returns-then-service-eq3 c = sym (ap service_numbered c.if-service-eq3.true)

pub returns-then-service-eq4 : goal.returns-then-service-eq4
returns-then-service-eq4 c = sym (ap service_numbered c.if-service-eq4.true)

pub returns-then-service-eq5 : goal.returns-then-service-eq5
returns-then-service-eq5 c = sym (ap service_numbered c.if-service-eq5.true)

pub returns-then-service-eq6 : goal.returns-then-service-eq6
returns-then-service-eq6 c = sym (ap service_numbered c.if-service-eq6.true)

pub returns-then-service-eq7 : goal.returns-then-service-eq7
returns-then-service-eq7 c = sym (ap service_numbered c.if-service-eq7.true)

pub returns-then-service-eq0 : goal.returns-then-service-eq0
returns-then-service-eq0 c = sym (ap service_numbered c.if-service-eq0.true)

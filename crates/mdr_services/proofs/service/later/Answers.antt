use Rattle.std.proofs.Common.{ap, sym}
use Rattle.mdr_core.specs.Services.{service_numbered}
use Rattle.mdr_services.proofs.NumberLaws.{no_service}
use Rattle.mdr_services.proofs.service.later.Goals as goal

pub returns-then-service-eq8 : goal.returns-then-service-eq8
returns-then-service-eq8 c = sym (ap service_numbered c.if-service-eq8.true)

pub returns-then-service-eq9 : goal.returns-then-service-eq9
returns-then-service-eq9 c = sym (ap service_numbered c.if-service-eq9.true)

pub returns-then-service-eq10 : goal.returns-then-service-eq10
returns-then-service-eq10 c = sym (ap service_numbered c.if-service-eq10.true)

pub returns-then-service-eq11 : goal.returns-then-service-eq11
returns-then-service-eq11 c = sym (ap service_numbered c.if-service-eq11.true)

pub returns-then-service-eq12 : goal.returns-then-service-eq12
returns-then-service-eq12 c = sym (ap service_numbered c.if-service-eq12.true)

pub returns-then-service-eq13 : goal.returns-then-service-eq13
returns-then-service-eq13 c = sym (ap service_numbered c.if-service-eq13.true)

pub returns-then-service-eq14 : goal.returns-then-service-eq14
returns-then-service-eq14 c = sym (ap service_numbered c.if-service-eq14.true)

pub returns : goal.returns
returns c = no_service c.args.service c.requires c.if-service-eq8.false c.if-service-eq9.false c.if-service-eq10.false c.if-service-eq11.false c.if-service-eq12.false c.if-service-eq13.false c.if-service-eq14.false

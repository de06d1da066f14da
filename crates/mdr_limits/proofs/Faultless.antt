-- What a reply without a fault passes: each of the tests of its kind.
use Rattle.std.proofs.Common.{◌≡◌, None}
use Rattle.mdr_model.specs.declared.reply.Reply.{Reply}
use Rattle.mdr_model.proofs.Accepted.{AreNone, no_faults}
use Rattle.mdr_split.specs.Legal.{fault_of, faults_of}
use Rattle.mdr_split.specs.State.{Kernel, Open, Rest}
use Rattle.mdr_watched.specs.Driver.{Driver}

pub faultless : (d : Driver) (k : Kernel) (upcall : Open) (rest : Rest) (reply : Reply) → fault_of d k upcall rest reply ≡ None → AreNone (faults_of d k upcall reply)
unfolding fault_of
faultless d k upcall rest reply e = no_faults (faults_of d k upcall reply) e

-- Which calls cross from half to half.
use Rattle.std.proofs.Common.{◌<◌, length, subst}
use Rattle.mdr_core.specs.declared.plan.Half.TheVariants.{Kernel}
use Rattle.mdr_paths.specs.Chains.{Next}
use Rattle.mdr_callees.specs.Callees.{CrossingsHaveStubs, TheKernelHalfCrossesNowhere}
use Rattle.std.proofs.lemmas.Option.{slice_get_within}

pub stubs : CrossingsHaveStubs
stubs program roots halves are callees graph f g user kernel calls =
    (are.stub g).1 (record { kernel = (are.kernel g).0 kernel; caller = f; user = (are.user f).0 user; calls = ((graph.rows f ((are.user f).0 user).inside).exact g).0 calls })

pub nowhere : TheKernelHalfCrossesNowhere
nowhere program roots halves are callees graph f g kernel calls = (are.kernel g).1 (Next f g ((are.kernel f).0 kernel) (((graph.rows f inside).exact g).0 calls))
  where
    inside : f < length program.funcs
    inside = subst (λ n. f < n) are.halves_size (slice_get_within halves.halves f Kernel kernel)

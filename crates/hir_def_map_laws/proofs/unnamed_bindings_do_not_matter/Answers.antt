-- Each segment is looked up under its name alone, and all else hangs on frames and on what crates say at their tops.
use Rattle.hir_def_map_laws.proofs.Agreement.{same_resolution}
use Rattle.hir_def_map_laws.proofs.unnamed_bindings_do_not_matter.Goals as goal

pub returns : goal.returns
returns c =
    record {
      alike = λ one other asking from path agree. same_resolution one other agree.frames agree.crate_data agree.preludes asking path.kind path.segments
          agree.names from;
    }

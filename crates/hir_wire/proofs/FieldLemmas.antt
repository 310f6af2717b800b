-- What stands in a member, however it is looked for.
use Rattle.std.proofs.Common.{◌≡◌, Option, Some, Ordering, Less, Equal, Greater, List, ℕ, codes, refl}
use Rattle.std.specs.Ordering.{nat_cmp, match_ordering}
use Rattle.std.specs.Cmp.Lexicographic.{slice_cmp}
use Rattle.serde_json.specs.Data.{Data, Members, no_members, member}
use Rattle.serde_json.specs.Find.{get_member}
use Rattle.hir_wire.specs.Reading.{Reading, if_there}
use Rattle.hir_wire.specs.Attributes.{inner_in, attribute_list_of}
use Rattle.hir_wire.specs.Conditions.{cfg_in, cfgs_in, cfg_of, cfg_list_of}

-- one more member
pub meant_at : {A : Type 0} (read : Data → Reading A) (o : Ordering) (d : Data) (rest : Reading A) (found : Option Data) → rest ≡ if_there read found
    → match_ordering o rest (read d) rest ≡ if_there read (match_ordering o found (Some d) found)
meant_at read Less d rest found e = e
meant_at read Equal d rest found e = refl
meant_at read Greater d rest found e = e

pub inner_in-get_member : (ms : Members) → inner_in ms ≡ if_there attribute_list_of (get_member (codes "attrs") ms)
inner_in-get_member no_members = refl
inner_in-get_member (member k d ms) = meant_at attribute_list_of (slice_cmp nat_cmp (codes "attrs") k) d _ _ (inner_in-get_member ms)

pub cfg_in-get_member : (name : List ℕ) (ms : Members) → cfg_in name ms ≡ if_there cfg_of (get_member name ms)
cfg_in-get_member name no_members = refl
cfg_in-get_member name (member k d ms) = meant_at cfg_of (slice_cmp nat_cmp name k) d _ _ (cfg_in-get_member name ms)

pub cfgs_in-get_member : (name : List ℕ) (ms : Members) → cfgs_in name ms ≡ if_there cfg_list_of (get_member name ms)
cfgs_in-get_member name no_members = refl
cfgs_in-get_member name (member k d ms) = meant_at cfg_list_of (slice_cmp nat_cmp name k) d _ _ (cfgs_in-get_member name ms)

-- What is linked is an image.
use Rattle.std.proofs.Common.{◌≡◌, Bool, true, false, nat_lt, refl, subst, Ok, Err, if◌then◌else◌}
use Rattle.std.proofs.lemmas.Bool.{ltb-false}
use Rattle.fx_config.specs.declared.configuration.Config.{Config}
use Rattle.fx_c_ast.specs.declared.checked.TProgram.{TProgram}
use Rattle.fx_grants.specs.declared.grants.Grants.{Grants}
use Rattle.fx_sections.specs.declared.placement.Placement.{Placement}
use Rattle.fx_sections.specs.Placement.{placed}
use Rattle.fx_image.specs.declared.forms.Image.{Image}
use Rattle.fx_image.specs.Rules.{IsImage}
use Rattle.fx_linker.specs.declared.parts.Parts.{Parts}
use Rattle.fx_linker.specs.declared.error.LinkError.{LinkError}
use Rattle.fx_linker.specs.Linked.{parts_layout, image_of}
use Rattle.fx_linker_law.specs.Premises.{IsShort, IsGiven, IsBuilt}
use Rattle.fx_linker_law.specs.Laws.{LinkedAreImages}
use Rattle.fx_linker_law.proofs.Whole.{heads, compartments, code, aborts, owners, starts}
use Rattle.fx_linker_law.proofs.Placed.{sections, literals, stubs}
use Rattle.fx_linker_law.proofs.Sequences.{sequences}
use Rattle.fx_linker_law.proofs.Entries.{entries}
use Rattle.fx_linker_law.proofs.Objects.{objects}

short_image : (parts : Parts) (p : TProgram) (g : Grants) (k : Config) (places : Placement)
    → IsGiven p g k → IsBuilt parts p k → placed p g k ≡ Ok places → IsShort parts
    → IsImage (image_of parts p places k)
short_image parts p g k places given built is short =
    let head = heads parts p places k given.configuration built.made in
    record {
      version = head.version;
      mechanism = head.mechanism;
      count = head.count;
      stacks = head.stacks;
      scheduler = head.scheduler;
      home = head.home;
      compartments = compartments parts p places k given.configuration built.made;
      sections = sections parts p g k places given.configuration given.grants is;
      code = code parts p places k built.made short;
      literals = literals parts p g k places is;
      objects = objects parts p g k places given.configuration given.globals built.tables given.placeable is;
      entries = entries parts p places k built.made built.entries;
      stubs = stubs parts p places k built.stubs;
      abort = aborts parts p places k built.made;
      owners = owners parts p places k given.configuration;
      starts = starts parts p places k given.configuration built.made;
      sequences = sequences parts p places k built.keys short;
    }

-- what isn't refused is the image of code that is short enough
accepted : (b : Bool) (e : LinkError) (x i : Image) → (if b then Err e else Ok x) ≡ Ok i
    → (b ≡ false) × (x ≡ i)
accepted true e x i h = absurd cc
accepted false e x i h = let same : x ≡ i = cc in (refl, same)

pub linked : LinkedAreImages
linked parts p g k places i given built is h =
    let parted = accepted (nat_lt 1048576 (parts_layout parts).size) _ (image_of parts p places k) i h in
    subst IsImage parted.1
    (short_image parts p g k places given built is (ltb-false 1048576 (parts_layout parts).size parted.0))

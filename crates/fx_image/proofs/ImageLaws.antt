-- What is read as an image is its spelling, and the image meets the rules; and each image that does is
-- read from its spelling.
use Rattle.std.proofs.Common.{◌≡◌, ℕ, ◌^◌, ◌<◌, Bool, true, not, ◌&&◌, ◌||◌, cond, eqb, ltb, leb, List, [], ◌∷◌, ◌++◌, length, Option, Some, None, Result, Ok, Err, refl, sym, ap, subst, ◌∙◌, append_assoc, arith, inl, inr}
use Rattle.std.specs.Prelude.{bit_and, IfOk}
use Rattle.fx_image.specs.ImageBytes.{ImageBytes}
use Rattle.std.specs.List.{flat_map, AllByRecursion, list_all}
use Rattle.std.proofs.lemmas.Bool.{and_parts, or_cases, eqb-true, ltb-true, not-true, both_ways, cases_cond}
use Rattle.std.proofs.lemmas.List.{append-nil, nil_from_length}
use Rattle.fx_image.specs.Fits.{IsBytes, IsText, FitsComp, FitsSection, FitsObj, FitsEntry, FitsStub, FitsStart, FitsImage}
use Rattle.fx_image.specs.Spelling.{u16_spelling, u32_spelling, block_spelling, comp_spelling, section_spelling, obj_spelling, entry_spelling, stub_spelling, start_spelling, image_spelling}
use Rattle.fx_image.specs.Rules.{IsImage, is_count, are_stacks, are_compartments, are_sections, is_pair, is_code, are_literals, are_objects, is_object, are_apart, is_distinct_by, are_entries, is_entry, are_counted, are_stubs, is_in_runtime, are_owners, are_starts, is_start, first_unlisted, has_none}
use Rattle.fx_image.specs.Reading.{◌>>=◌, Read, Gives, head_at, compartments_at, sections_at, code_at, literals_at, objects_at, entries_at, stubs_at, abort_at, owners_at, starts_at, sequences, finished, front_at, back_at, image_at}
use Rattle.fx_image.specs.declared.error.ImageError.{ImageError}
use Rattle.fx_image.specs.declared.error.ImageError.TheVariants.{Extra, Field}
use Rattle.fx_image.specs.declared.forms.Comp.{Comp}
use Rattle.fx_image.specs.declared.forms.Section.{Section}
use Rattle.fx_image.specs.declared.forms.Obj.{Obj}
use Rattle.fx_image.specs.declared.forms.EntryRec.{EntryRec}
use Rattle.fx_image.specs.declared.forms.Stub.{Stub}
use Rattle.fx_image.specs.declared.forms.Start.{Start}
use Rattle.fx_image.specs.declared.forms.Image.{Image}
use Rattle.fx_image.specs.declared.reading.Head.{Head}
use Rattle.fx_image.specs.declared.reading.Front.{Front}
use Rattle.fx_image.proofs.FieldLaws.{bind_ok, rule_ok, ok_is, Takes, Takes-then, Laws}
use Rattle.fx_image.proofs.RecordLaws.{FitsVersion}
use Rattle.fx_image.proofs.StageLaws.{head_part, FitsHead, head_laws, compartments_laws, sections_laws, code_laws, literals_laws, objects_laws, entries_laws, stubs_laws, abort_laws, owners_laws, starts_laws}
use Rattle.fx_image.proofs.Room.{roomy, most_compartments, sections_tests}

-- ---- the fields before the entries

abbrev front_part : Front → List ℕ
front_part f =
    head_part f.head ++ (flat_map comp_spelling f.compartments ++ ((u16_spelling (length f.sections) ++ flat_map (section_spelling f.head.version) f.sections)
    ++ (block_spelling f.code ++ (block_spelling f.literals ++ (u32_spelling (length f.objects) ++ flat_map obj_spelling f.objects)))))

record FitsFront (f : Front) : Type 0 where
  pub head : FitsHead f.head
  pub compartments : (AllByRecursion FitsComp f.compartments × (length f.compartments ≡ f.head.count)) × (are_compartments f.compartments ≡ true)
  pub sections : (AllByRecursion (FitsVersion f.head.version) f.sections × (length f.sections < 2 ^ 16)) × (are_sections f.head.version f.head.mechanism f.head.scheduler f.compartments f.sections ≡ true)
  pub code : IsText (2 ^ 32) f.code × (is_code f.compartments f.code ≡ true)
  pub literals : IsText (2 ^ 32) f.literals × (are_literals f.literals ≡ true)
  pub objects : (AllByRecursion FitsObj f.objects × (length f.objects < 2 ^ 32)) × (are_objects f.sections f.objects ≡ true)

abbrev front_of : Head → List Comp → List Section → List ℕ → List ℕ → List Obj → Front
front_of h cs ss c l os = record { head = h; compartments = cs; sections = ss; code = c; literals = l; objects = os }

abbrev objects_then : Head → List Comp → List Section → List ℕ → List ℕ → List ℕ → Read Front
objects_then h cs ss c l bytes = objects_at ss bytes >>= λ os. Ok (front_of h cs ss c l os.0, os.1)

abbrev literals_then : Head → List Comp → List Section → List ℕ → List ℕ → Read Front
literals_then h cs ss c bytes = literals_at bytes >>= λ l. objects_then h cs ss c l.0 l.1

abbrev code_then : Head → List Comp → List Section → List ℕ → Read Front
code_then h cs ss bytes = code_at cs bytes >>= λ c. literals_then h cs ss c.0 c.1

abbrev sections_then : Head → List Comp → List ℕ → Read Front
sections_then h cs bytes = sections_at h cs bytes >>= λ ss. code_then h cs ss.0 ss.1

abbrev compartments_then : Head → List ℕ → Read Front
compartments_then h bytes = compartments_at h.count bytes >>= λ cs. sections_then h cs.0 cs.1

regroup_front : (h a b c d e t : List ℕ) → (h ++ (a ++ (b ++ (c ++ (d ++ e))))) ++ t ≡ h ++ (a ++ (b ++ (c ++ (d ++ (e ++ t)))))
regroup_front h a b c d e t = simp append_assoc

front_laws : Laws front_at front_part FitsFront
unfolding front_at
front_laws = record {
  takes = λ bytes x fits e.
      let h = bind_ok (head_at bytes) (λ h. compartments_then h.0 h.1) x e in
      let cs = bind_ok (compartments_at h.0.0.count h.0.1) (λ cs. sections_then h.0.0 cs.0 cs.1) x h.2 in
      let ss = bind_ok (sections_at h.0.0 cs.0.0 cs.0.1) (λ ss. code_then h.0.0 cs.0.0 ss.0 ss.1) x cs.2 in
      let c = bind_ok (code_at cs.0.0 ss.0.1) (λ c. literals_then h.0.0 cs.0.0 ss.0.0 c.0 c.1) x ss.2 in
      let l = bind_ok (literals_at c.0.1) (λ l. objects_then h.0.0 cs.0.0 ss.0.0 c.0.0 l.0 l.1) x c.2 in
      let os = bind_ok (objects_at ss.0.0 l.0.1) (λ os. Ok (front_of h.0.0 cs.0.0 ss.0.0 c.0.0 l.0.0 os.0, os.1)) x l.2 in
      let th = head_laws.takes bytes h.0 fits h.1 in
      let tcs = (compartments_laws h.0.0.count).takes h.0.1 cs.0 th.0.rest_fits cs.1 in
      let tss = (sections_laws h.0.0 cs.0.0).takes cs.0.1 ss.0 tcs.0.rest_fits ss.1 in
      let tc = (code_laws cs.0.0).takes ss.0.1 c.0 tss.0.rest_fits c.1 in
      let tl = literals_laws.takes c.0.1 l.0 tc.0.rest_fits l.1 in
      let tos = (objects_laws ss.0.0).takes l.0.1 os.0 tl.0.rest_fits os.1 in
      let e5 = Takes-then c.0.1 _ l.0.1 _ os.0.1 tl.0 tos.0 in
      let e4 = Takes-then ss.0.1 _ c.0.1 _ os.0.1 tc.0 e5 in
      let e3 = Takes-then cs.0.1 _ ss.0.1 _ os.0.1 tss.0 e4 in
      let e2 = Takes-then h.0.1 _ cs.0.1 _ os.0.1 tcs.0 e3 in
      let e1 = Takes-then bytes _ h.0.1 _ os.0.1 th.0 e2 in
      let made : Front × List ℕ = (front_of h.0.0 cs.0.0 ss.0.0 c.0.0 l.0.0 os.0.0, os.0.1) in
      subst (λ (y : Front × List ℕ). Takes bytes (front_part y.0) y.1 × FitsFront y.0) (ok_is made x os.2)
      (e1, record { head = th.1; compartments = tcs.1; sections = tss.1; code = tc.1; literals = tl.1; objects = tos.1 });
  again = λ f rest fits.
      let sa = u16_spelling (length f.sections) ++ flat_map (section_spelling f.head.version) f.sections in
      let oa = u32_spelling (length f.objects) ++ flat_map obj_spelling f.objects in
      ap front_at (regroup_front (head_part f.head) (flat_map comp_spelling f.compartments) sa (block_spelling f.code) (block_spelling f.literals) oa rest)
      ∙ ap (λ (r : Read Head). r >>= λ h. compartments_then h.0 h.1) (head_laws.again f.head _ fits.head)
      ∙ ap (λ (r : Read (List Comp)). r >>= λ cs. sections_then f.head cs.0 cs.1) ((compartments_laws f.head.count).again f.compartments _ fits.compartments)
      ∙ ap (λ (r : Read (List Section)). r >>= λ ss. code_then f.head f.compartments ss.0 ss.1) ((sections_laws f.head f.compartments).again f.sections _ fits.sections)
      ∙ ap (λ (r : Read (List ℕ)). r >>= λ c. literals_then f.head f.compartments f.sections c.0 c.1) ((code_laws f.compartments).again f.code _ fits.code)
      ∙ ap (λ (r : Read (List ℕ)). r >>= λ l. objects_then f.head f.compartments f.sections f.code l.0 l.1) (literals_laws.again f.literals _ fits.literals)
      ∙ ap (λ (r : Read (List Obj)). r >>= λ os. Ok (front_of f.head f.compartments f.sections f.code f.literals os.0, os.1)) ((objects_laws f.sections).again f.objects rest fits.objects);
}

-- ---- the fields from the entries on

abbrev back_part : Image → List ℕ
back_part i =
    (u16_spelling (length i.entries) ++ flat_map entry_spelling i.entries) ++ ((u16_spelling (length i.stubs) ++ flat_map stub_spelling i.stubs)
    ++ (u32_spelling i.abort ++ (i.owners ++ ((length i.starts ∷ []) ++ flat_map start_spelling i.starts))))

record FitsBack (f : Front) (i : Image) : Type 0 where
  pub entries : (AllByRecursion FitsEntry i.entries × (length i.entries < 2 ^ 16)) × (are_entries f.compartments i.entries ≡ true)
  pub stubs : (AllByRecursion FitsStub i.stubs × (length i.stubs < 2 ^ 16)) × (are_stubs f.head.mechanism f.compartments f.code i.entries i.stubs ≡ true)
  pub abort : (i.abort < 2 ^ 32) × (is_in_runtime f.compartments f.code i.abort ≡ true)
  pub owners : ((length i.owners ≡ 16) × IsBytes i.owners) × (are_owners (length f.compartments) i.owners ≡ true)
  pub starts : AllByRecursion FitsStart i.starts × (length i.starts < 256)
  pub rules : are_starts i ≡ true
  pub sequences : has_none (first_unlisted i.stubs i.code) ≡ true

abbrev image_of : Front → List EntryRec → List Stub → ℕ → List ℕ → List Start → Image
image_of f es ss a o st = record { version = f.head.version; mechanism = f.head.mechanism; stack_pages = f.head.stack_pages; threads = f.head.threads; scheduler = f.head.scheduler; home = f.head.home; compartments = f.compartments; sections = f.sections; code = f.code; literals = f.literals; objects = f.objects; entries = es; stubs = ss; abort = a; owners = o; starts = st }

abbrev starts_then : Front → List EntryRec → List Stub → ℕ → List ℕ → List ℕ → Result Image ImageError
starts_then f es ss a o bytes = starts_at bytes >>= λ st. finished (image_of f es ss a o st.0) st.1

abbrev owners_then : Front → List EntryRec → List Stub → ℕ → List ℕ → Result Image ImageError
owners_then f es ss a bytes = owners_at (length f.compartments) bytes >>= λ o. starts_then f es ss a o.0 o.1

abbrev abort_then : Front → List EntryRec → List Stub → List ℕ → Result Image ImageError
abort_then f es ss bytes = abort_at f.compartments f.code bytes >>= λ a. owners_then f es ss a.0 a.1

abbrev stubs_then : Front → List EntryRec → List ℕ → Result Image ImageError
stubs_then f es bytes = stubs_at f.head.mechanism f.compartments f.code es bytes >>= λ ss. abort_then f es ss.0 ss.1

sequences_ok : (o : Option ℕ) (i j : Image) → sequences i o ≡ Ok j → (has_none o ≡ true) × (i ≡ j)
sequences_ok None i j e = (refl, ok_is i j e)
sequences_ok (Some at) i j e = absurd cc

sequences_again : (o : Option ℕ) (i : Image) → has_none o ≡ true → sequences i o ≡ Ok i
sequences_again None i e = refl
sequences_again (Some at) i e = absurd cc

-- what the end of reading says
record Finishes (i j : Image) (rest : List ℕ) : Type 0 where
  pub same : i ≡ j
  pub nothing : rest ≡ []
  pub rules : are_starts i ≡ true
  pub sequences : has_none (first_unlisted i.stubs i.code) ≡ true

finished_ok : (i j : Image) (rest : List ℕ) → finished i rest ≡ Ok j → Finishes i j rest
unfolding finished
finished_ok i j rest e =
    let a = rule_ok (are_starts i) (Field 17) (cond (eqb (length rest) 0) (sequences i (first_unlisted i.stubs i.code)) (Err Extra)) j e in
    let b = rule_ok (eqb (length rest) 0) Extra (sequences i (first_unlisted i.stubs i.code)) j a.1 in
    let c = sequences_ok (first_unlisted i.stubs i.code) i j b.1 in
    record { same = c.1; nothing = nil_from_length rest (eqb-true _ _ b.0); rules = a.0; sequences = c.0 }

finished_again : (i : Image) → are_starts i ≡ true → has_none (first_unlisted i.stubs i.code) ≡ true → finished i [] ≡ Ok i
unfolding finished
finished_again i rules none =
    ap (λ (b : Bool). cond b (sequences i (first_unlisted i.stubs i.code)) (Err (Field 17))) rules
    ∙ sequences_again (first_unlisted i.stubs i.code) i none

record BackTakes (f : Front) (bytes : List ℕ) (i : Image) : Type 0 where
  pub entries : List EntryRec
  pub stubs : List Stub
  pub abort : ℕ
  pub owners : List ℕ
  pub starts : List Start
  pub same : image_of f entries stubs abort owners starts ≡ i
  pub spelled : bytes ≡ back_part (image_of f entries stubs abort owners starts)
  pub fits : FitsBack f (image_of f entries stubs abort owners starts)

back_takes : (f : Front) (bytes : List ℕ) (i : Image) → IsBytes bytes → back_at f bytes ≡ Ok i → BackTakes f bytes i
unfolding back_at
back_takes f bytes i fits e =
    let es = bind_ok (entries_at f.compartments bytes) (λ es. stubs_then f es.0 es.1) i e in
    let ss = bind_ok (stubs_at f.head.mechanism f.compartments f.code es.0.0 es.0.1) (λ ss. abort_then f es.0.0 ss.0 ss.1) i es.2 in
    let a = bind_ok (abort_at f.compartments f.code ss.0.1) (λ a. owners_then f es.0.0 ss.0.0 a.0 a.1) i ss.2 in
    let o = bind_ok (owners_at (length f.compartments) a.0.1) (λ o. starts_then f es.0.0 ss.0.0 a.0.0 o.0 o.1) i a.2 in
    let st = bind_ok (starts_at o.0.1) (λ st. finished (image_of f es.0.0 ss.0.0 a.0.0 o.0.0 st.0) st.1) i o.2 in
    let end = finished_ok (image_of f es.0.0 ss.0.0 a.0.0 o.0.0 st.0.0) i st.0.1 st.2 in
    let tes = (entries_laws f.compartments).takes bytes es.0 fits es.1 in
    let tss = (stubs_laws f.head.mechanism f.compartments f.code es.0.0).takes es.0.1 ss.0 tes.0.rest_fits ss.1 in
    let ta = (abort_laws f.compartments f.code).takes ss.0.1 a.0 tss.0.rest_fits a.1 in
    let to = (owners_laws (length f.compartments)).takes a.0.1 o.0 ta.0.rest_fits o.1 in
    let tst = starts_laws.takes o.0.1 st.0 to.0.rest_fits st.1 in
    let e4 = Takes-then a.0.1 _ o.0.1 _ st.0.1 to.0 tst.0 in
    let e3 = Takes-then ss.0.1 _ a.0.1 _ st.0.1 ta.0 e4 in
    let e2 = Takes-then es.0.1 _ ss.0.1 _ st.0.1 tss.0 e3 in
    let e1 = Takes-then bytes _ es.0.1 _ st.0.1 tes.0 e2 in
    record {
      entries = es.0.0;
      stubs = ss.0.0;
      abort = a.0.0;
      owners = o.0.0;
      starts = st.0.0;
      same = end.same;
      spelled = e1.parts ∙ ap (λ (t : List ℕ). back_part (image_of f es.0.0 ss.0.0 a.0.0 o.0.0 st.0.0) ++ t) end.nothing ∙ append-nil _;
      fits = record { entries = tes.1; stubs = tss.1; abort = ta.1; owners = to.1; starts = tst.1; rules = end.rules; sequences = end.sequences };
    }

back_again : (f : Front) (es : List EntryRec) (ss : List Stub) (a : ℕ) (o : List ℕ) (st : List Start) → FitsBack f (image_of f es ss a o st)
    → back_at f (back_part (image_of f es ss a o st)) ≡ Ok (image_of f es ss a o st)
unfolding back_at
back_again f es ss a o st fits =
    let last : List ℕ = (length st ∷ []) ++ flat_map start_spelling st in
    ap (λ (r : Read (List EntryRec)). r >>= λ x. stubs_then f x.0 x.1) ((entries_laws f.compartments).again es _ fits.entries)
    ∙ ap (λ (r : Read (List Stub)). r >>= λ x. abort_then f es x.0 x.1) ((stubs_laws f.head.mechanism f.compartments f.code es).again ss _ fits.stubs)
    ∙ ap (λ (r : Read ℕ). r >>= λ x. owners_then f es ss x.0 x.1) ((abort_laws f.compartments f.code).again a _ fits.abort)
    ∙ ap (λ (r : Read (List ℕ)). r >>= λ x. starts_then f es ss a x.0 x.1) ((owners_laws (length f.compartments)).again o last fits.owners)
    ∙ ap (λ (t : List ℕ). starts_then f es ss a o t) (sym (append-nil last))
    ∙ ap (λ (r : Read (List Start)). r >>= λ x. finished (image_of f es ss a o x.0) x.1) (starts_laws.again st [] fits.starts)
    ∙ finished_again (image_of f es ss a o st) fits.rules fits.sequences

-- ---- the whole

-- the parts of an image's spelling
regroup_image : (h a b c d e t : List ℕ) → (h ++ (a ++ (b ++ (c ++ (d ++ e))))) ++ t ≡ h ++ (a ++ (b ++ (c ++ (d ++ (e ++ t)))))
regroup_image h a b c d e t = regroup_front h a b c d e t

-- the fields before the entries, of an image
abbrev front_in : Image → Front
front_in i = front_of (record { version = i.version; mechanism = i.mechanism; count = length i.compartments; stack_pages = i.stack_pages; threads = i.threads; scheduler = i.scheduler; home = i.home }) i.compartments i.sections i.code i.literals i.objects

spelled_in_parts : (i : Image) → front_part (front_in i) ++ back_part i ≡ image_spelling i
unfolding image_spelling
spelled_in_parts i =
    regroup_image (head_part (front_in i).head) (flat_map comp_spelling i.compartments) (u16_spelling (length i.sections) ++ flat_map (section_spelling i.version) i.sections)
    (block_spelling i.code) (block_spelling i.literals) (u32_spelling (length i.objects) ++ flat_map obj_spelling i.objects) (back_part i)

weaker : (version : ℕ) (ss : List Section) → AllByRecursion (FitsVersion version) ss → AllByRecursion FitsSection ss
weaker version [] fits = tt
weaker version (s ∷ ss) fits = ((fits.0.0.0, fits.0.1), weaker version ss fits.1)

-- a front whose count is that of its compartments
counted_front : (f : Front) → length f.compartments ≡ f.head.count → Front
counted_front f len = f

-- an image made of parts that fit meets the rules
meets : (f : Front) (es : List EntryRec) (ss : List Stub) (a : ℕ) (o : List ℕ) (st : List Start) → FitsFront f → FitsBack f (image_of f es ss a o st) → IsImage (image_of f es ss a o st)
meets f es ss a o st front back =
    let len : f.head.count ≡ length f.compartments = sym front.compartments.0.1 in
    record {
      version = front.head.version.1;
      mechanism = front.head.mechanism.1;
      count = subst (λ (n : ℕ). is_count f.head.mechanism n ≡ true) len front.head.count.1;
      stacks = front.head.stacks.1;
      scheduler = subst (λ (n : ℕ). ltb f.head.scheduler n ≡ true) len front.head.scheduler.1;
      home = subst (λ (n : ℕ). ltb f.head.home n ≡ true) len front.head.home.1;
      compartments = front.compartments.1;
      sections = front.sections.1;
      code = front.code.1;
      literals = front.literals.1;
      objects = front.objects.1;
      entries = back.entries.1;
      stubs = back.stubs.1;
      abort = back.abort.1;
      owners = back.owners.1;
      starts = back.rules;
      sequences = back.sequences;
    }

fits_image : (f : Front) (es : List EntryRec) (ss : List Stub) (a : ℕ) (o : List ℕ) (st : List Start) → FitsFront f → FitsBack f (image_of f es ss a o st) → FitsImage (image_of f es ss a o st)
fits_image f es ss a o st front back = record {
  version = front.head.version.0;
  mechanism = front.head.mechanism.0;
  stack_pages = front.head.stacks.0.0;
  threads = front.head.stacks.0.1.0;
  scheduler = front.head.scheduler.0;
  home = front.head.home.0;
  compartments = front.compartments.0.0;
  sections = weaker f.head.version f.sections front.sections.0.0;
  code = front.code.0;
  literals = front.literals.0;
  objects = front.objects.0.0;
  entries = back.entries.0.0;
  stubs = back.stubs.0.0;
  abort = back.abort.0;
  owners = back.owners.0;
  starts = back.starts.0;
}

-- the front with the count that its compartments have
recounted : (f : Front) (es : List EntryRec) (ss : List Stub) (a : ℕ) (o : List ℕ) (st : List Start) → f.head.count ≡ length f.compartments → front_part f ≡ front_part (front_in (image_of f es ss a o st))
recounted f es ss a o st len =
    ap (λ (n : ℕ). front_part (front_of (record { version = f.head.version; mechanism = f.head.mechanism; count = n; stack_pages = f.head.stack_pages; threads = f.head.threads; scheduler = f.head.scheduler; home = f.head.home }) f.compartments f.sections f.code f.literals f.objects)) len

pub record Found (bytes : List ℕ) (i : Image) : Type 0 where
  pub spelled : bytes ≡ image_spelling i
  pub rules : IsImage i
  pub fits : FitsImage i

pub image_takes : (bytes : List ℕ) (i : Image) → IsBytes bytes → image_at bytes ≡ Ok i → Found bytes i
unfolding image_at
image_takes bytes i fits e =
    let f = bind_ok (front_at bytes) (λ front. back_at front.0 front.1) i e in
    let front = front_laws.takes bytes f.0 fits f.1 in
    let back = back_takes f.0.0 f.0.1 i front.0.rest_fits f.2 in
    let im = image_of f.0.0 back.entries back.stubs back.abort back.owners back.starts in
    let len : f.0.0.head.count ≡ length f.0.0.compartments = sym front.1.compartments.0.1 in
    let spelled : bytes ≡ image_spelling im =
    front.0.parts ∙ ap (λ (t : List ℕ). front_part f.0.0 ++ t) back.spelled
    ∙ ap (λ (t : List ℕ). t ++ back_part im) (recounted f.0.0 back.entries back.stubs back.abort back.owners back.starts len)
    ∙ spelled_in_parts im in
    subst (λ (j : Image). Found bytes j) back.same
    (record { spelled = spelled; rules = meets f.0.0 back.entries back.stubs back.abort back.owners back.starts front.1 back.fits; fits = fits_image f.0.0 back.entries back.stubs back.abort back.owners back.starts front.1 back.fits })

-- ---- the other way

eight_threads : (version pages threads : ℕ) → are_stacks version pages threads ≡ true → eqb version 1 ≡ true → threads ≡ 8
eight_threads version pages threads e one =
    let which = (and_parts (leb 1 pages && leb pages 64) (eqb threads 8 || (eqb threads 16 && not (eqb version 1))) e).1 in
    elim (or_cases (eqb threads 8) (eqb threads 16 && not (eqb version 1)) which) [
      | inl eight ↦ eqb-true threads 8 eight
      | inr sixteen ↦ absurd (both_ways (eqb version 1) (not-true (eqb version 1) (and_parts (eqb threads 16) (not (eqb version 1)) sixteen).1) one)
    ]

one_set : (version n : ℕ) (s : Section) → is_pair version n s ≡ true → eqb version 1 ≡ true → s.readers ≡ s.writers
one_set version n s e one =
    let which = (and_parts ((ltb 0 s.writers && eqb (bit_and s.writers s.readers) s.writers) && ltb s.readers (2 ^ n)) (not (eqb version 1) || eqb s.readers s.writers) e).1 in
    elim (or_cases (not (eqb version 1)) (eqb s.readers s.writers) which) [
      | inl later ↦ absurd (both_ways (eqb version 1) (not-true (eqb version 1) later) one)
      | inr same ↦ eqb-true s.readers s.writers same
    ]

stronger : (version n : ℕ) (ss : List Section) → AllByRecursion FitsSection ss → list_all (is_pair version n) ss ≡ true → AllByRecursion (FitsVersion version) ss
stronger version n [] fits e = tt
stronger version n (s ∷ ss) fits e =
    let both = and_parts (is_pair version n s) (list_all (is_pair version n) ss) e in
    (((fits.0.0, one_set version n s both.0), fits.0.1), stronger version n ss fits.1 both.1)

few_starts : (i : Image) → IsImage i → length i.starts < 256
few_starts i is =
    let most = most_compartments i is in
    let count : length i.starts ≡ cond (eqb i.mechanism 3) (length i.compartments) 1 = eqb-true _ _ (and_parts (eqb (length i.starts) (cond (eqb i.mechanism 3) (length i.compartments) 1)) (list_all (is_start i) i.starts) is.starts).0 in
    elim (cases_cond {X = ℕ} (eqb i.mechanism 3) (length i.compartments) 1 (cond (eqb i.mechanism 3) (length i.compartments) 1) refl) [ inl e ↦ omega (arith, count, e, most) | inr e ↦ omega (arith, count, e) ]

fits_front : (i : Image) → FitsImage i → IsImage i → FitsFront (front_in i)
fits_front i fits is =
    let room = roomy i is in
    let most = most_compartments i is in
    let few = and_parts ((leb (length i.objects) 32016 && list_all (is_object i.sections) i.objects) && are_apart 0 i.objects) (is_distinct_by _ i.objects) is.objects in
    record {
      head = record {
        version = (fits.version, is.version);
        mechanism = (fits.mechanism, is.mechanism);
        count = (omega (arith, most), is.count);
        stacks = ((fits.stack_pages, (fits.threads, eight_threads i.version i.stack_pages i.threads is.stacks)), is.stacks);
        scheduler = (fits.scheduler, is.scheduler);
        home = (fits.home, is.home);
      };
      compartments = ((fits.compartments, refl), is.compartments);
      sections = ((stronger i.version (length i.compartments) i.sections fits.sections (sections_tests i is).pairs, room.sections), is.sections);
      code = (fits.code, is.code);
      literals = (fits.literals, is.literals);
      objects = ((fits.objects, room.count), is.objects);
    }

fits_back : (i : Image) → FitsImage i → IsImage i → FitsBack (front_in i) i
fits_back i fits is =
    let es = and_parts (ltb (length i.entries) (2 ^ 16) && list_all (is_entry i.compartments) i.entries) (are_counted 0 0 i.entries) is.entries in
    let ss = and_parts (ltb (length i.stubs) (2 ^ 16)) _ is.stubs in
    record {
      entries = ((fits.entries, ltb-true _ _ (and_parts (ltb (length i.entries) (2 ^ 16)) (list_all (is_entry i.compartments) i.entries) es.0).0), is.entries);
      stubs = ((fits.stubs, ltb-true _ _ ss.0), is.stubs);
      abort = (fits.abort, is.abort);
      owners = (fits.owners, is.owners);
      starts = (fits.starts, few_starts i is);
      rules = is.starts;
      sequences = is.sequences;
    }

pub image_again : (i : Image) → FitsImage i → IsImage i → image_at (image_spelling i) ≡ Ok i
unfolding image_at
image_again i fits is =
    ap (λ (t : List ℕ). front_at t >>= λ front. back_at front.0 front.1) (sym (spelled_in_parts i))
    ∙ ap (λ (r : Read Front). r >>= λ front. back_at front.0 front.1) (front_laws.again (front_in i) (back_part i) (fits_front i fits is))
    ∙ back_again (front_in i) i.entries i.stubs i.abort i.owners i.starts (fits_back i fits is)

pub is_found : (bytes : List ℕ) (r : Result Image ImageError) → IsBytes bytes → Gives (λ x. x) r (image_at bytes) → IfOk r (λ i. ImageBytes i bytes)
is_found bytes (Ok i) fits given = let f = image_takes bytes i fits given in record { rules = f.rules; spelled = f.spelled }
is_found bytes (Err e) fits given = tt

pub one_spelled : (i : Image) (x y : List ℕ) → ImageBytes i x → ImageBytes i y → x ≡ y
one_spelled i x y a b = a.spelled ∙ sym b.spelled

pub one_image : (i j : Image) (x : List ℕ) → FitsImage i → FitsImage j → ImageBytes i x → ImageBytes j x → i ≡ j
one_image i j x fi fj a b =
    ok_is i j (sym (image_again i fi a.rules) ∙ ap image_at (sym a.spelled ∙ b.spelled) ∙ image_again j fj b.rules)

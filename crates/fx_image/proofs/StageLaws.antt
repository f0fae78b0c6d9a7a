-- The fields of an image with their rules: what is read is spelled so, and what is spelled so is read.
use Rattle.std.proofs.Common.{◌≡◌, ℕ, ◌^◌, ◌<◌, true, cond, eqb, ltb, List, [], ◌∷◌, ◌++◌, length, Ok, Err, refl, ap, subst, ◌∙◌, append_assoc}
use Rattle.std.specs.List.{flat_map, AllByRecursion}
use Rattle.std.specs.Str.{bytes_eq}
use Rattle.std.proofs.lemmas.Bool.{and_parts, eqb-true}
use Rattle.fx_image.specs.Fits.{IsBytes, IsText, FitsComp, FitsObj, FitsEntry, FitsStub, FitsStart}
use Rattle.fx_image.specs.Spelling.{magic, u16_spelling, u32_spelling, threads_spelling, block_spelling, comp_spelling, section_spelling, obj_spelling, entry_spelling, stub_spelling, start_spelling}
use Rattle.fx_image.specs.Rules.{is_version, is_mechanism, is_count, are_stacks, are_compartments, are_sections, is_code, are_literals, are_objects, are_entries, are_stubs, is_in_runtime, are_owners}
use Rattle.fx_image.specs.Reading.{◌>>=◌, Read, bytes_at, u8_at, u16_at, u32_at, block_at, comp_at, section_at, obj_at, entry_at, stub_at, records_at, table_at, long_table_at, known_at, version_at, mechanism_at, count_at, sizes_at, stacks_at, member_at, head_at, compartments_at, sections_at, code_at, literals_at, objects_at, entries_at, stubs_at, abort_at, owners_at, starts_at}
use Rattle.fx_image.specs.declared.error.ImageError.TheVariants.{Magic, Version, Field}
use Rattle.fx_image.specs.declared.forms.Comp.{Comp}
use Rattle.fx_image.specs.declared.forms.Section.{Section}
use Rattle.fx_image.specs.declared.forms.EntryRec.{EntryRec}
use Rattle.fx_image.specs.declared.reading.Head.{Head}
use Rattle.fx_image.proofs.FieldLaws.{bind_ok, rule_ok, ok_is, Takes, Takes-then, Laws, whole, ruled, bytes_takes, bytes_again, u8_laws, u16_laws, u32_laws, block_laws}
use Rattle.fx_image.proofs.RecordLaws.{two, comp_laws, section_laws, obj_laws, entry_laws, stub_laws, start_laws, FitsVersion, FitsThreads, threads_laws, records_laws, counted_laws}

-- ---- the first two fields

same_bytes : (xs ys : List ℕ) → bytes_eq xs ys ≡ true → xs ≡ ys
same_bytes [] [] e = refl
same_bytes [] (y ∷ ys) e = absurd cc
same_bytes (x ∷ xs) [] e = absurd cc
same_bytes (x ∷ xs) (y ∷ ys) e =
    let both = and_parts (eqb x y) (bytes_eq xs ys) e in
    let first : x ≡ y = eqb-true x y both.0 in
    let others : xs ≡ ys = same_bytes xs ys both.1 in
    cc

known_laws : Laws known_at u16_spelling (λ v. (v < 2 ^ 16) × (is_version v ≡ true))
unfolding known_at
known_laws = let laws = ruled u16_at u16_spelling (λ v. v < 65536) is_version Version u16_laws in record { takes = laws.takes; again = laws.again }

pub version_laws : Laws version_at (λ v. magic ++ u16_spelling v) (λ v. (v < 2 ^ 16) × (is_version v ≡ true))
unfolding version_at
version_laws = record {
  takes = λ bytes x fits e.
      let b = bind_ok (bytes_at 4 bytes) (λ first. cond (bytes_eq first.0 magic) (known_at first.1) (Err Magic)) x e in
      let g = rule_ok (bytes_eq b.0.0 magic) Magic (known_at b.0.1) x b.2 in
      let first = bytes_takes 4 bytes b.0 fits b.1 in
      let second = known_laws.takes b.0.1 x first.0.rest_fits g.1 in
      let is : b.0.0 ≡ magic = same_bytes b.0.0 magic g.0 in
      let start : Takes bytes magic b.0.1 = subst (λ (t : List ℕ). Takes bytes t b.0.1) is first.0 in
      (Takes-then bytes magic b.0.1 (u16_spelling x.0) x.1 start second.0, second.1);
  again = λ v rest fits.
      ap (λ (r : Read (List ℕ)). r >>= λ first. cond (bytes_eq first.0 magic) (known_at first.1) (Err Magic)) (bytes_again 4 magic (u16_spelling v ++ rest) refl)
      ∙ known_laws.again v rest fits;
}

-- ---- up to the compartment of main

mechanism_laws : Laws mechanism_at (λ m. m ∷ []) (λ m. (m < 256) × (is_mechanism m ≡ true))
unfolding mechanism_at
mechanism_laws = let laws = ruled u8_at (λ m. m ∷ []) (λ m. m < 256) is_mechanism (Field 3) u8_laws in record { takes = laws.takes; again = laws.again }

count_laws : (mechanism : ℕ) → Laws (count_at mechanism) (λ c. c ∷ []) (λ c. (c < 256) × (is_count mechanism c ≡ true))
unfolding count_at
count_laws mechanism = let laws = ruled u8_at (λ c. c ∷ []) (λ c. c < 256) (is_count mechanism) (Field 4) u8_laws in record { takes = laws.takes; again = laws.again }

-- the pages of a stack and the threads
abbrev sizes_spelling : ℕ → ℕ × ℕ → List ℕ
sizes_spelling version p = (p.0 ∷ []) ++ threads_spelling version p.1

abbrev FitsSizes : ℕ → ℕ × ℕ → Type 0
FitsSizes version p = (p.0 < 256) × FitsThreads version p.1

sizes_laws : (version : ℕ) → Laws (sizes_at version) (sizes_spelling version) (FitsSizes version)
unfolding sizes_at
sizes_laws version =
    let part = two u8_laws (threads_laws version) (λ p t. (p, t)) (λ (s : ℕ × ℕ). s.0) (λ s. s.1) (λ s. Unit {0}) (λ p t. (tt, (refl, refl))) (λ v k. refl) in
    let laws = whole _ _ _ part in record { takes = laws.takes; again = laws.again }

stacks_laws : (version : ℕ) → Laws (stacks_at version) (sizes_spelling version) (λ p. FitsSizes version p × (are_stacks version p.0 p.1 ≡ true))
unfolding stacks_at
stacks_laws version = let laws = ruled (sizes_at version) (sizes_spelling version) (FitsSizes version) (λ p. are_stacks version p.0 p.1) (Field 5) (sizes_laws version) in record { takes = laws.takes; again = laws.again }

member_laws : (field count : ℕ) → Laws (member_at field count) (λ c. c ∷ []) (λ c. (c < 256) × (ltb c count ≡ true))
unfolding member_at
member_laws field count = let laws = ruled u8_at (λ c. c ∷ []) (λ c. c < 256) (λ c. ltb c count) (Field field) u8_laws in record { takes = laws.takes; again = laws.again }

abbrev pub head_part : Head → List ℕ
head_part h =
    (magic ++ u16_spelling h.version) ++ ((h.mechanism ∷ []) ++ ((h.count ∷ []) ++ (sizes_spelling h.version (h.stack_pages, h.threads)
    ++ ((h.scheduler ∷ []) ++ (h.home ∷ [])))))

pub record FitsHead (h : Head) : Type 0 where
  pub version : (h.version < 2 ^ 16) × (is_version h.version ≡ true)
  pub mechanism : (h.mechanism < 256) × (is_mechanism h.mechanism ≡ true)
  pub count : (h.count < 256) × (is_count h.mechanism h.count ≡ true)
  pub stacks : FitsSizes h.version (h.stack_pages, h.threads) × (are_stacks h.version h.stack_pages h.threads ≡ true)
  pub scheduler : (h.scheduler < 256) × (ltb h.scheduler h.count ≡ true)
  pub home : (h.home < 256) × (ltb h.home h.count ≡ true)

abbrev head_of : ℕ → ℕ → ℕ → ℕ × ℕ → ℕ → ℕ → Head
head_of v m c s u h = record { version = v; mechanism = m; count = c; stack_pages = s.0; threads = s.1; scheduler = u; home = h }

abbrev home_then : ℕ → ℕ → ℕ → ℕ × ℕ → ℕ → List ℕ → Read Head
home_then v m c s u bytes = member_at 7 c bytes >>= λ h. Ok (head_of v m c s u h.0, h.1)

abbrev scheduler_then : ℕ → ℕ → ℕ → ℕ × ℕ → List ℕ → Read Head
scheduler_then v m c s bytes = member_at 6 c bytes >>= λ u. home_then v m c s u.0 u.1

abbrev stacks_then : ℕ → ℕ → ℕ → List ℕ → Read Head
stacks_then v m c bytes = stacks_at v bytes >>= λ s. scheduler_then v m c s.0 s.1

abbrev count_then : ℕ → ℕ → List ℕ → Read Head
count_then v m bytes = count_at m bytes >>= λ c. stacks_then v m c.0 c.1

abbrev mechanism_then : ℕ → List ℕ → Read Head
mechanism_then v bytes = mechanism_at bytes >>= λ m. count_then v m.0 m.1

pub head_laws : Laws head_at head_part FitsHead
unfolding head_at
head_laws = record {
  takes = λ bytes x fits e.
      let v = bind_ok (version_at bytes) (λ v. mechanism_then v.0 v.1) x e in
      let m = bind_ok (mechanism_at v.0.1) (λ m. count_then v.0.0 m.0 m.1) x v.2 in
      let c = bind_ok (count_at m.0.0 m.0.1) (λ c. stacks_then v.0.0 m.0.0 c.0 c.1) x m.2 in
      let s = bind_ok (stacks_at v.0.0 c.0.1) (λ s. scheduler_then v.0.0 m.0.0 c.0.0 s.0 s.1) x c.2 in
      let u = bind_ok (member_at 6 c.0.0 s.0.1) (λ u. home_then v.0.0 m.0.0 c.0.0 s.0.0 u.0 u.1) x s.2 in
      let h = bind_ok (member_at 7 c.0.0 u.0.1) (λ h. Ok (head_of v.0.0 m.0.0 c.0.0 s.0.0 u.0.0 h.0, h.1)) x u.2 in
      let tv = version_laws.takes bytes v.0 fits v.1 in
      let tm = mechanism_laws.takes v.0.1 m.0 tv.0.rest_fits m.1 in
      let tc = (count_laws m.0.0).takes m.0.1 c.0 tm.0.rest_fits c.1 in
      let ts = (stacks_laws v.0.0).takes c.0.1 s.0 tc.0.rest_fits s.1 in
      let tu = (member_laws 6 c.0.0).takes s.0.1 u.0 ts.0.rest_fits u.1 in
      let th = (member_laws 7 c.0.0).takes u.0.1 h.0 tu.0.rest_fits h.1 in
      let e5 = Takes-then s.0.1 (u.0.0 ∷ []) u.0.1 (h.0.0 ∷ []) h.0.1 tu.0 th.0 in
      let e4 = Takes-then c.0.1 (sizes_spelling v.0.0 s.0.0) s.0.1 ((u.0.0 ∷ []) ++ (h.0.0 ∷ [])) h.0.1 ts.0 e5 in
      let e3 = Takes-then m.0.1 (c.0.0 ∷ []) c.0.1 (sizes_spelling v.0.0 s.0.0 ++ ((u.0.0 ∷ []) ++ (h.0.0 ∷ []))) h.0.1 tc.0 e4 in
      let e2 = Takes-then v.0.1 (m.0.0 ∷ []) m.0.1 ((c.0.0 ∷ []) ++ (sizes_spelling v.0.0 s.0.0 ++ ((u.0.0 ∷ []) ++ (h.0.0 ∷ [])))) h.0.1 tm.0 e3 in
      let e1 = Takes-then bytes (magic ++ u16_spelling v.0.0) v.0.1 ((m.0.0 ∷ []) ++ ((c.0.0 ∷ []) ++ (sizes_spelling v.0.0 s.0.0 ++ ((u.0.0 ∷ []) ++ (h.0.0 ∷ []))))) h.0.1 tv.0 e2 in
      let made : Head × List ℕ = (head_of v.0.0 m.0.0 c.0.0 s.0.0 u.0.0 h.0.0, h.0.1) in
      subst (λ (y : Head × List ℕ). Takes bytes (head_part y.0) y.1 × FitsHead y.0) (ok_is made x h.2)
      (e1, record { version = tv.1; mechanism = tm.1; count = tc.1; stacks = ts.1; scheduler = tu.1; home = th.1 });
  again = λ h rest fits.
      let sizes = sizes_spelling h.version (h.stack_pages, h.threads) in
      let regrouped : head_part h ++ rest ≡ (magic ++ u16_spelling h.version) ++ (h.mechanism ∷ h.count ∷ (sizes ++ (h.scheduler ∷ h.home ∷ rest))) =
      append_assoc (magic ++ u16_spelling h.version) (h.mechanism ∷ h.count ∷ (sizes ++ (h.scheduler ∷ h.home ∷ []))) rest
      ∙ ap (λ (t : List ℕ). (magic ++ u16_spelling h.version) ++ (h.mechanism ∷ h.count ∷ t)) (append_assoc sizes (h.scheduler ∷ h.home ∷ []) rest) in
      ap head_at regrouped
      ∙ ap (λ (r : Read ℕ). r >>= λ v. mechanism_then v.0 v.1) (version_laws.again h.version (h.mechanism ∷ h.count ∷ (sizes ++ (h.scheduler ∷ h.home ∷ rest))) fits.version)
      ∙ ap (λ (r : Read ℕ). r >>= λ m. count_then h.version m.0 m.1) (mechanism_laws.again h.mechanism (h.count ∷ (sizes ++ (h.scheduler ∷ h.home ∷ rest))) fits.mechanism)
      ∙ ap (λ (r : Read ℕ). r >>= λ c. stacks_then h.version h.mechanism c.0 c.1) ((count_laws h.mechanism).again h.count (sizes ++ (h.scheduler ∷ h.home ∷ rest)) fits.count)
      ∙ ap (λ (r : Read (ℕ × ℕ)). r >>= λ s. scheduler_then h.version h.mechanism h.count s.0 s.1) ((stacks_laws h.version).again (h.stack_pages, h.threads) (h.scheduler ∷ h.home ∷ rest) fits.stacks)
      ∙ ap (λ (r : Read ℕ). r >>= λ u. home_then h.version h.mechanism h.count (h.stack_pages, h.threads) u.0 u.1) ((member_laws 6 h.count).again h.scheduler (h.home ∷ rest) fits.scheduler)
      ∙ ap (λ (r : Read ℕ). r >>= λ o. Ok (head_of h.version h.mechanism h.count (h.stack_pages, h.threads) h.scheduler o.0, o.1)) ((member_laws 7 h.count).again h.home rest fits.home);
}

-- ---- the tables and blocks with their rules

table_laws : {X : Type 0} {at : List ℕ → Read X} {spelled : X → List ℕ} {Fits : X → Type 0} → Laws at spelled Fits
    → Laws (table_at at) (λ xs. u16_spelling (length xs) ++ flat_map spelled xs) (λ xs. AllByRecursion Fits xs × (length xs < 2 ^ 16))
unfolding table_at
table_laws laws = let counted = counted_laws laws u16_laws in record { takes = counted.takes; again = counted.again }

long_table_laws : {X : Type 0} {at : List ℕ → Read X} {spelled : X → List ℕ} {Fits : X → Type 0} → Laws at spelled Fits
    → Laws (long_table_at at) (λ xs. u32_spelling (length xs) ++ flat_map spelled xs) (λ xs. AllByRecursion Fits xs × (length xs < 2 ^ 32))
unfolding long_table_at
long_table_laws laws = let counted = counted_laws laws u32_laws in record { takes = counted.takes; again = counted.again }

pub compartments_laws : (count : ℕ) → Laws (compartments_at count) (λ cs. flat_map comp_spelling cs) (λ cs. (AllByRecursion FitsComp cs × (length cs ≡ count)) × (are_compartments cs ≡ true))
unfolding compartments_at
compartments_laws count = let laws = ruled (records_at comp_at count) (λ cs. flat_map comp_spelling cs) (λ cs. AllByRecursion FitsComp cs × (length cs ≡ count)) are_compartments (Field 8) (records_laws comp_laws count) in record { takes = laws.takes; again = laws.again }

pub sections_laws : (head : Head) (comps : List Comp) → Laws (sections_at head comps) (λ ss. u16_spelling (length ss) ++ flat_map (section_spelling head.version) ss)
    (λ ss. (AllByRecursion (FitsVersion head.version) ss × (length ss < 2 ^ 16)) × (are_sections head.version head.mechanism head.scheduler comps ss ≡ true))
unfolding sections_at
sections_laws head comps = let laws = ruled (table_at (section_at head.version)) (λ ss. u16_spelling (length ss) ++ flat_map (section_spelling head.version) ss) (λ ss. AllByRecursion (FitsVersion head.version) ss × (length ss < 65536)) (are_sections head.version head.mechanism head.scheduler comps) (Field 9) (table_laws (section_laws head.version)) in record { takes = laws.takes; again = laws.again }

pub code_laws : (comps : List Comp) → Laws (code_at comps) block_spelling (λ code. IsText (2 ^ 32) code × (is_code comps code ≡ true))
unfolding code_at
code_laws comps = let laws = ruled block_at block_spelling (IsText 4294967296) (is_code comps) (Field 10) block_laws in record { takes = laws.takes; again = laws.again }

pub literals_laws : Laws literals_at block_spelling (λ literals. IsText (2 ^ 32) literals × (are_literals literals ≡ true))
unfolding literals_at
literals_laws = let laws = ruled block_at block_spelling (IsText 4294967296) are_literals (Field 11) block_laws in record { takes = laws.takes; again = laws.again }

pub objects_laws : (sections : List Section) → Laws (objects_at sections) (λ os. u32_spelling (length os) ++ flat_map obj_spelling os) (λ os. (AllByRecursion FitsObj os × (length os < 2 ^ 32)) × (are_objects sections os ≡ true))
unfolding objects_at
objects_laws sections = let laws = ruled (long_table_at obj_at) (λ os. u32_spelling (length os) ++ flat_map obj_spelling os) (λ os. AllByRecursion FitsObj os × (length os < 4294967296)) (are_objects sections) (Field 12) (long_table_laws obj_laws) in record { takes = laws.takes; again = laws.again }

pub entries_laws : (comps : List Comp) → Laws (entries_at comps) (λ es. u16_spelling (length es) ++ flat_map entry_spelling es) (λ es. (AllByRecursion FitsEntry es × (length es < 2 ^ 16)) × (are_entries comps es ≡ true))
unfolding entries_at
entries_laws comps = let laws = ruled (table_at entry_at) (λ es. u16_spelling (length es) ++ flat_map entry_spelling es) (λ es. AllByRecursion FitsEntry es × (length es < 65536)) (are_entries comps) (Field 13) (table_laws entry_laws) in record { takes = laws.takes; again = laws.again }

pub stubs_laws : (mechanism : ℕ) (comps : List Comp) (code : List ℕ) (entries : List EntryRec) → Laws (stubs_at mechanism comps code entries) (λ ss. u16_spelling (length ss) ++ flat_map stub_spelling ss)
    (λ ss. (AllByRecursion FitsStub ss × (length ss < 2 ^ 16)) × (are_stubs mechanism comps code entries ss ≡ true))
unfolding stubs_at
stubs_laws mechanism comps code entries = let laws = ruled (table_at stub_at) (λ ss. u16_spelling (length ss) ++ flat_map stub_spelling ss) (λ ss. AllByRecursion FitsStub ss × (length ss < 65536)) (are_stubs mechanism comps code entries) (Field 14) (table_laws stub_laws) in record { takes = laws.takes; again = laws.again }

pub abort_laws : (comps : List Comp) (code : List ℕ) → Laws (abort_at comps code) u32_spelling (λ a. (a < 2 ^ 32) × (is_in_runtime comps code a ≡ true))
unfolding abort_at
abort_laws comps code = let laws = ruled u32_at u32_spelling (λ a. a < 4294967296) (is_in_runtime comps code) (Field 15) u32_laws in record { takes = laws.takes; again = laws.again }

sixteen_laws : Laws (bytes_at 16) (λ bytes. bytes) (λ bytes. (length bytes ≡ 16) × IsBytes bytes)
sixteen_laws = record {
  takes = λ bytes x fits e. let t = bytes_takes 16 bytes x fits e in (t.0, (t.1, t.2));
  again = λ text rest fits. bytes_again 16 text rest fits.0;
}

pub owners_laws : (count : ℕ) → Laws (owners_at count) (λ owners. owners) (λ owners. ((length owners ≡ 16) × IsBytes owners) × (are_owners count owners ≡ true))
unfolding owners_at
owners_laws count = let laws = ruled (bytes_at 16) (λ owners. owners) (λ owners. (length owners ≡ 16) × IsBytes owners) (are_owners count) (Field 16) sixteen_laws in record { takes = laws.takes; again = laws.again }

pub starts_laws : Laws starts_at (λ ss. (length ss ∷ []) ++ flat_map start_spelling ss) (λ ss. AllByRecursion FitsStart ss × (length ss < 256))
unfolding starts_at
starts_laws = let counted = counted_laws start_laws u8_laws in record { takes = counted.takes; again = counted.again }

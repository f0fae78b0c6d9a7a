-- Records of two to six fields, one after the other, and lists of records.
use Rattle.std.proofs.Common.{◌≡◌, ℕ, zero, suc, ◌^◌, ◌<◌, Bool, true, false, cond, eqb, List, [], ◌∷◌, ◌++◌, length, Ok, refl, sym, ap, subst, ◌∙◌, append_assoc, arith}
use Rattle.std.specs.List.{flat_map, AllByRecursion}
use Rattle.std.proofs.lemmas.List.Concat.{flat_map-cons}
use Rattle.fx_image.specs.Reading.{◌>>=◌, Read, u8_at, u16_at, comp_at, pair_at, section_at, obj_at, entry_at, stub_at, start_at, threads_at, records_at}
use Rattle.fx_image.specs.Spelling.{u16_spelling, comp_spelling, pair_spelling, section_spelling, obj_spelling, entry_spelling, stub_spelling, start_spelling, threads_spelling}
use Rattle.fx_image.specs.declared.forms.Comp.{Comp}
use Rattle.fx_image.specs.declared.forms.Section.{Section}
use Rattle.fx_image.specs.declared.forms.Obj.{Obj}
use Rattle.fx_image.specs.declared.forms.EntryRec.{EntryRec}
use Rattle.fx_image.specs.declared.forms.Stub.{Stub}
use Rattle.fx_image.specs.declared.forms.Start.{Start}
use Rattle.fx_image.specs.Fits.{IsBytes, FitsComp, FitsObj, FitsEntry, FitsStub, FitsStart}
use Rattle.fx_image.proofs.FieldLaws.{bind_ok, ok_is, Takes, Takes-then, Laws, Part, field_then, field_last, whole, u8_laws, u16_laws, u32_laws, u64_laws, name_laws, block_laws}

-- In each, `made` makes the record of its fields, and the fields of a record of which something is
-- known make it again.

pub two : {A B X : Type 0} {a : List ℕ → Read A} {sa : A → List ℕ} {Fa : A → Type 0} {b : List ℕ → Read B} {sb : B → List ℕ} {Fb : B → Type 0}
    → Laws a sa Fa → Laws b sb Fb → (made : A → B → X) (f : X → A) (g : X → B) (Known : X → Type 0)
    → ((x : A) (y : B) → Known (made x y) × ((f (made x y) ≡ x) × (g (made x y) ≡ y))) → ((v : X) → Known v → made (f v) (g v) ≡ v)
    → Part (λ bytes. a bytes >>= λ x. b x.1 >>= λ y. Ok (made x.0 y.0, y.1)) Known (λ v. sa (f v) ++ sb (g v)) (λ v. Fa (f v) × Fb (g v))
two {A} {B} {X} {a} {sa} {Fa} {b} {sb} {Fb} la lb made f g Known is eta =
    field_then la (λ x bytes. b bytes >>= λ y. Ok (made x y.0, y.1)) f Known (λ v. sb (g v)) (λ v. Fb (g v))
    (λ x h. field_last lb (made x) g (λ v. Known v × (f v ≡ x))
    (λ y. let t = is x y in ((t.0, t.1.0), t.1.1))
    (λ v k. ap (λ (w : A). made w (g v)) (sym k.1) ∙ eta v k.0))

three : {A B C X : Type 0} {a : List ℕ → Read A} {sa : A → List ℕ} {Fa : A → Type 0} {b : List ℕ → Read B} {sb : B → List ℕ} {Fb : B → Type 0} {c : List ℕ → Read C} {sc : C → List ℕ} {Fc : C → Type 0}
    → Laws a sa Fa → Laws b sb Fb → Laws c sc Fc → (made : A → B → C → X) (f : X → A) (g : X → B) (h : X → C) (Known : X → Type 0)
    → ((x : A) (y : B) (z : C) → Known (made x y z) × ((f (made x y z) ≡ x) × ((g (made x y z) ≡ y) × (h (made x y z) ≡ z)))) → ((v : X) → Known v → made (f v) (g v) (h v) ≡ v)
    → Part (λ bytes. a bytes >>= λ x. b x.1 >>= λ y. c y.1 >>= λ z. Ok (made x.0 y.0 z.0, z.1)) Known (λ v. sa (f v) ++ (sb (g v) ++ sc (h v))) (λ v. Fa (f v) × (Fb (g v) × Fc (h v)))
three {A} {B} {C} {X} {a} {sa} {Fa} {b} {sb} {Fb} {c} {sc} {Fc} la lb lc made f g h Known is eta =
    field_then la (λ x bytes. b bytes >>= λ y. c y.1 >>= λ z. Ok (made x y.0 z.0, z.1)) f Known (λ v. sb (g v) ++ sc (h v)) (λ v. Fb (g v) × Fc (h v))
    (λ x fits. two lb lc (made x) g h (λ v. Known v × (f v ≡ x))
    (λ y z. let t = is x y z in ((t.0, t.1.0), t.1.1))
    (λ v k. ap (λ (w : A). made w (g v) (h v)) (sym k.1) ∙ eta v k.0))

four : {A B C D X : Type 0} {a : List ℕ → Read A} {sa : A → List ℕ} {Fa : A → Type 0} {b : List ℕ → Read B} {sb : B → List ℕ} {Fb : B → Type 0} {c : List ℕ → Read C} {sc : C → List ℕ} {Fc : C → Type 0} {d : List ℕ → Read D} {sd : D → List ℕ} {Fd : D → Type 0}
    → Laws a sa Fa → Laws b sb Fb → Laws c sc Fc → Laws d sd Fd → (made : A → B → C → D → X) (f : X → A) (g : X → B) (h : X → C) (i : X → D) (Known : X → Type 0)
    → ((x : A) (y : B) (z : C) (w : D) → Known (made x y z w) × ((f (made x y z w) ≡ x) × ((g (made x y z w) ≡ y) × ((h (made x y z w) ≡ z) × (i (made x y z w) ≡ w))))) → ((v : X) → Known v → made (f v) (g v) (h v) (i v) ≡ v)
    → Part (λ bytes. a bytes >>= λ x. b x.1 >>= λ y. c y.1 >>= λ z. d z.1 >>= λ w. Ok (made x.0 y.0 z.0 w.0, w.1)) Known (λ v. sa (f v) ++ (sb (g v) ++ (sc (h v) ++ sd (i v)))) (λ v. Fa (f v) × (Fb (g v) × (Fc (h v) × Fd (i v))))
four {A} {B} {C} {D} {X} {a} {sa} {Fa} {b} {sb} {Fb} {c} {sc} {Fc} {d} {sd} {Fd} la lb lc ld made f g h i Known is eta =
    field_then la (λ x bytes. b bytes >>= λ y. c y.1 >>= λ z. d z.1 >>= λ w. Ok (made x y.0 z.0 w.0, w.1)) f Known (λ v. sb (g v) ++ (sc (h v) ++ sd (i v))) (λ v. Fb (g v) × (Fc (h v) × Fd (i v)))
    (λ x fits. three lb lc ld (made x) g h i (λ v. Known v × (f v ≡ x))
    (λ y z w. let t = is x y z w in ((t.0, t.1.0), t.1.1))
    (λ v k. ap (λ (u : A). made u (g v) (h v) (i v)) (sym k.1) ∙ eta v k.0))

-- a field before four, and before five: the two longest records
five : {A B C D E X : Type 0} {a : List ℕ → Read A} {sa : A → List ℕ} {Fa : A → Type 0} {b : List ℕ → Read B} {sb : B → List ℕ} {Fb : B → Type 0} {c : List ℕ → Read C} {sc : C → List ℕ} {Fc : C → Type 0} {d : List ℕ → Read D} {sd : D → List ℕ} {Fd : D → Type 0} {e : List ℕ → Read E} {se : E → List ℕ} {Fe : E → Type 0}
    → Laws a sa Fa → Laws b sb Fb → Laws c sc Fc → Laws d sd Fd → Laws e se Fe → (made : A → B → C → D → E → X) (f : X → A) (g : X → B) (h : X → C) (i : X → D) (j : X → E) (Known : X → Type 0)
    → ((x : A) (y : B) (z : C) (w : D) (u : E) → Known (made x y z w u) × ((f (made x y z w u) ≡ x) × ((g (made x y z w u) ≡ y) × ((h (made x y z w u) ≡ z) × ((i (made x y z w u) ≡ w) × (j (made x y z w u) ≡ u)))))) → ((v : X) → Known v → made (f v) (g v) (h v) (i v) (j v) ≡ v)
    → Part (λ bytes. a bytes >>= λ x. b x.1 >>= λ y. c y.1 >>= λ z. d z.1 >>= λ w. e w.1 >>= λ u. Ok (made x.0 y.0 z.0 w.0 u.0, u.1)) Known (λ v. sa (f v) ++ (sb (g v) ++ (sc (h v) ++ (sd (i v) ++ se (j v))))) (λ v. Fa (f v) × (Fb (g v) × (Fc (h v) × (Fd (i v) × Fe (j v)))))
five {A} {B} {C} {D} {E} {X} {a} {sa} {Fa} {b} {sb} {Fb} {c} {sc} {Fc} {d} {sd} {Fd} {e} {se} {Fe} la lb lc ld le made f g h i j Known is eta =
    field_then la (λ x bytes. b bytes >>= λ y. c y.1 >>= λ z. d z.1 >>= λ w. e w.1 >>= λ u. Ok (made x y.0 z.0 w.0 u.0, u.1)) f Known (λ v. sb (g v) ++ (sc (h v) ++ (sd (i v) ++ se (j v)))) (λ v. Fb (g v) × (Fc (h v) × (Fd (i v) × Fe (j v))))
    (λ x fits. four lb lc ld le (made x) g h i j (λ v. Known v × (f v ≡ x))
    (λ y z w u. let t = is x y z w u in ((t.0, t.1.0), t.1.1))
    (λ v k. ap (λ (r : A). made r (g v) (h v) (i v) (j v)) (sym k.1) ∙ eta v k.0))

six : {A B C D E F X : Type 0} {a : List ℕ → Read A} {sa : A → List ℕ} {Fa : A → Type 0} {b : List ℕ → Read B} {sb : B → List ℕ} {Fb : B → Type 0} {c : List ℕ → Read C} {sc : C → List ℕ} {Fc : C → Type 0} {d : List ℕ → Read D} {sd : D → List ℕ} {Fd : D → Type 0} {e : List ℕ → Read E} {se : E → List ℕ} {Fe : E → Type 0} {o : List ℕ → Read F} {so : F → List ℕ} {Fo : F → Type 0}
    → Laws a sa Fa → Laws b sb Fb → Laws c sc Fc → Laws d sd Fd → Laws e se Fe → Laws o so Fo → (made : A → B → C → D → E → F → X) (f : X → A) (g : X → B) (h : X → C) (i : X → D) (j : X → E) (k : X → F) (Known : X → Type 0)
    → ((x : A) (y : B) (z : C) (w : D) (u : E) (t : F) → Known (made x y z w u t) × ((f (made x y z w u t) ≡ x) × ((g (made x y z w u t) ≡ y) × ((h (made x y z w u t) ≡ z) × ((i (made x y z w u t) ≡ w) × ((j (made x y z w u t) ≡ u) × (k (made x y z w u t) ≡ t))))))) → ((v : X) → Known v → made (f v) (g v) (h v) (i v) (j v) (k v) ≡ v)
    → Part (λ bytes. a bytes >>= λ x. b x.1 >>= λ y. c y.1 >>= λ z. d z.1 >>= λ w. e w.1 >>= λ u. o u.1 >>= λ t. Ok (made x.0 y.0 z.0 w.0 u.0 t.0, t.1)) Known (λ v. sa (f v) ++ (sb (g v) ++ (sc (h v) ++ (sd (i v) ++ (se (j v) ++ so (k v)))))) (λ v. Fa (f v) × (Fb (g v) × (Fc (h v) × (Fd (i v) × (Fe (j v) × Fo (k v))))))
six {A} {B} {C} {D} {E} {F} {X} {a} {sa} {Fa} {b} {sb} {Fb} {c} {sc} {Fc} {d} {sd} {Fd} {e} {se} {Fe} {o} {so} {Fo} la lb lc ld le lo made f g h i j k Known is eta =
    field_then la (λ x bytes. b bytes >>= λ y. c y.1 >>= λ z. d z.1 >>= λ w. e w.1 >>= λ u. o u.1 >>= λ t. Ok (made x y.0 z.0 w.0 u.0 t.0, t.1)) f Known (λ v. sb (g v) ++ (sc (h v) ++ (sd (i v) ++ (se (j v) ++ so (k v))))) (λ v. Fb (g v) × (Fc (h v) × (Fd (i v) × (Fe (j v) × Fo (k v)))))
    (λ x fits. five lb lc ld le lo (made x) g h i j k (λ v. Known v × (f v ≡ x))
    (λ y z w u t. let p = is x y z w u t in ((p.0, p.1.0), p.1.1))
    (λ v q. ap (λ (r : A). made r (g v) (h v) (i v) (j v) (k v)) (sym q.1) ∙ eta v q.0))

-- ---- the records

pub comp_laws : Laws comp_at comp_spelling FitsComp
unfolding comp_at
comp_laws =
    let part = four name_laws u32_laws u32_laws u32_laws (λ n s l p. record { name = n; start = s; len = l; pkru = p }) (λ (c : Comp). c.name) (λ c. c.start) (λ c. c.len) (λ c. c.pkru) (λ c. Unit {0}) (λ n s l p. (tt, (refl, (refl, (refl, refl))))) (λ v k. refl) in
    let laws = whole _ _ _ part in record { takes = laws.takes; again = laws.again }

pub start_laws : Laws start_at start_spelling FitsStart
unfolding start_at
start_laws =
    let part = two u32_laws u64_laws (λ r p. record { rip = r; rsp = p }) (λ (s : Start). s.rip) (λ s. s.rsp) (λ s. Unit {0}) (λ r p. (tt, (refl, refl))) (λ v k. refl) in
    let laws = whole _ _ _ part in record { takes = laws.takes; again = laws.again }

pub obj_laws : Laws obj_at obj_spelling FitsObj
unfolding obj_at
obj_laws =
    let part = five name_laws u16_laws u64_laws u32_laws block_laws (λ n s a z i. record { name = n; section = s; address = a; size = z; initial = i }) (λ (o : Obj). o.name) (λ o. o.section) (λ o. o.address) (λ o. o.size) (λ o. o.initial) (λ o. Unit {0}) (λ n s a z i. (tt, (refl, (refl, (refl, (refl, refl)))))) (λ v k. refl) in
    let laws = whole _ _ _ part in record { takes = laws.takes; again = laws.again }

pub entry_laws : Laws entry_at entry_spelling FitsEntry
unfolding entry_at
entry_laws =
    let part = four name_laws u8_laws u16_laws u16_laws (λ n c k l. record { name = n; compartment = c; number = k; callers = l }) (λ (e : EntryRec). e.name) (λ e. e.compartment) (λ e. e.number) (λ e. e.callers) (λ e. Unit {0}) (λ n c k l. (tt, (refl, (refl, (refl, refl))))) (λ v k. refl) in
    let laws = whole _ _ _ part in record { takes = laws.takes; again = laws.again }

pub stub_laws : Laws stub_at stub_spelling FitsStub
unfolding stub_at
stub_laws =
    let part = six u8_laws u8_laws u16_laws u32_laws u32_laws u32_laws (λ f t e o a b. record { from = f; to = t; entry = e; offset = o; first = a; second = b }) (λ (s : Stub). s.from) (λ s. s.to) (λ s. s.entry) (λ s. s.offset) (λ s. s.first) (λ s. s.second) (λ s. Unit {0}) (λ f t e o a b. (tt, (refl, (refl, (refl, (refl, (refl, refl))))))) (λ v k. refl) in
    let laws = whole _ _ _ part in record { takes = laws.takes; again = laws.again }

-- ---- what version 1 leaves out

pair_by : (one : Bool) → Laws (λ bytes. u16_at bytes >>= λ first. cond one (Ok ((first.0, first.0), first.1)) (u16_at first.1 >>= λ second. Ok ((first.0, second.0), second.1)))
    (λ (p : ℕ × ℕ). cond one (u16_spelling p.1) (u16_spelling p.0 ++ u16_spelling p.1)) (λ p. ((p.0 < 2 ^ 16) × (p.1 < 2 ^ 16)) × (one ≡ true → p.0 ≡ p.1))
pair_by true =
    let part = field_last u16_laws (λ a. (a, a)) (λ (p : ℕ × ℕ). p.1) (λ p. p.0 ≡ p.1) (λ a. (refl, refl)) (λ v k. ap (λ (a : ℕ). (a, v.1)) (sym k)) in
    record {
      takes = λ bytes x fits e. let t = part.takes bytes x fits e in (t.1, ((subst (λ (a : ℕ). a < 65536) (sym t.0) t.2, t.2), λ h. t.0));
      again = λ x rest fits. part.again x rest (fits.1 refl) fits.0.1;
    }
pair_by false =
    let part = two u16_laws u16_laws (λ a b. (a, b)) (λ (p : ℕ × ℕ). p.0) (λ p. p.1) (λ p. Unit {0}) (λ a b. (tt, (refl, refl))) (λ v k. refl) in
    record {
      takes = λ bytes x fits e. let t = part.takes bytes x fits e in (t.1, (t.2, λ h. absurd cc));
      again = λ x rest fits. part.again x rest tt fits.0;
    }

-- a pair, of which version 1 has one set
abbrev pub FitsPair : ℕ → ℕ × ℕ → Type 0
FitsPair version p = ((p.0 < 2 ^ 16) × (p.1 < 2 ^ 16)) × (eqb version 1 ≡ true → p.0 ≡ p.1)

pair_laws : (version : ℕ) → Laws (pair_at version) (λ (p : ℕ × ℕ). pair_spelling version p.0 p.1) (FitsPair version)
unfolding pair_at
pair_laws version = let laws = pair_by (eqb version 1) in record { takes = laws.takes; again = laws.again }

-- a section, which has one set for both in version 1
abbrev pub FitsVersion : ℕ → Section → Type 0
FitsVersion version s = FitsPair version (s.readers, s.writers) × ((s.key < 256) × ((s.page < 2 ^ 32) × (s.pages < 2 ^ 32)))

pub section_laws : (version : ℕ) → Laws (section_at version) (section_spelling version) (FitsVersion version)
unfolding section_at
section_laws version =
    let part = four (pair_laws version) u8_laws u32_laws u32_laws (λ (p : ℕ × ℕ) k a n. record { readers = p.0; writers = p.1; key = k; page = a; pages = n }) (λ (s : Section). (s.readers, s.writers)) (λ s. s.key) (λ s. s.page) (λ s. s.pages) (λ s. Unit {0}) (λ p k a n. (tt, (refl, (refl, (refl, refl))))) (λ v k. refl) in
    let laws = whole _ _ _ part in record { takes = laws.takes; again = laws.again }

threads_by : (one : Bool) → Laws (λ bytes. cond one (Ok (8, bytes)) (u8_at bytes)) (λ (t : ℕ). cond one [] (t ∷ [])) (λ t. (t < 256) × (one ≡ true → t ≡ 8))
threads_by true = record {
  takes = λ bytes x fits e.
      subst (λ (y : ℕ × List ℕ). Takes bytes [] y.1 × ((y.0 < 256) × (true ≡ true → y.0 ≡ 8))) (ok_is (8, bytes) x e)
      (record { parts = refl; rest_fits = fits }, (omega arith, λ h. refl));
  again = λ t rest fits. ap (λ (n : ℕ). Ok (n, rest)) (sym (fits.1 refl));
}
threads_by false = record {
  takes = λ bytes x fits e. let t = u8_laws.takes bytes x fits e in (t.0, (t.1, λ h. absurd cc));
  again = λ t rest fits. u8_laws.again t rest fits.0;
}

abbrev pub FitsThreads : ℕ → ℕ → Type 0
FitsThreads version threads = (threads < 256) × (eqb version 1 ≡ true → threads ≡ 8)

pub threads_laws : (version : ℕ) → Laws (threads_at version) (threads_spelling version) (FitsThreads version)
unfolding threads_at
threads_laws version = let laws = threads_by (eqb version 1) in record { takes = laws.takes; again = laws.again }

-- ---- lists of records

records_take : {X : Type 0} (at : List ℕ → Read X) (spelled : X → List ℕ) (Fits : X → Type 0) → Laws at spelled Fits → (n : ℕ) (bytes : List ℕ) (x : List X × List ℕ) → IsBytes bytes → records_at at n bytes ≡ Ok x
    → Takes bytes (flat_map spelled x.0) x.1 × (AllByRecursion Fits x.0 × (length x.0 ≡ n))
unfolding records_at
records_take {X} at spelled Fits laws zero bytes x fits e =
    subst (λ (y : List X × List ℕ). Takes bytes (flat_map spelled y.0) y.1 × (AllByRecursion Fits y.0 × (length y.0 ≡ 0))) (ok_is ([], bytes) x e) (record { parts = refl; rest_fits = fits }, (tt, refl))
records_take {X} at spelled Fits laws (suc n) bytes x fits e =
    let a = bind_ok (at bytes) (λ first. records_at at n first.1 >>= λ others. Ok (first.0 ∷ others.0, others.1)) x e in
    let b = bind_ok (records_at at n a.0.1) (λ others. Ok (a.0.0 ∷ others.0, others.1)) x a.2 in
    let first = laws.takes bytes a.0 fits a.1 in
    let second = records_take at spelled Fits laws n a.0.1 b.0 first.0.rest_fits b.1 in
    let both = Takes-then bytes (spelled a.0.0) a.0.1 (flat_map spelled b.0.0) b.0.1 first.0 second.0 in
    let made : List X × List ℕ = (a.0.0 ∷ b.0.0, b.0.1) in
    subst (λ (y : List X × List ℕ). Takes bytes (flat_map spelled y.0) y.1 × (AllByRecursion Fits y.0 × (length y.0 ≡ suc n))) (ok_is made x b.2) (rw flat_map-cons both, ((first.1, second.1.0), ap suc second.1.1))

records_again : {X : Type 0} (at : List ℕ → Read X) (spelled : X → List ℕ) (Fits : X → Type 0) → Laws at spelled Fits → (n : ℕ) (xs : List X) (rest : List ℕ) → AllByRecursion Fits xs → length xs ≡ n
    → records_at at n (flat_map spelled xs ++ rest) ≡ Ok (xs, rest)
unfolding records_at
records_again at spelled Fits laws zero [] rest fits len = refl
records_again at spelled Fits laws zero (x ∷ xs) rest fits len = absurd (omega (arith, len))
records_again at spelled Fits laws (suc n) [] rest fits len = absurd (omega (arith, len))
records_again at spelled Fits laws (suc n) (x ∷ xs) rest fits len =
    let regrouped : flat_map spelled (x ∷ xs) ++ rest ≡ spelled x ++ (flat_map spelled xs ++ rest) = ap (λ (t : List ℕ). t ++ rest) (flat_map-cons spelled x xs) ∙ append_assoc (spelled x) (flat_map spelled xs) rest in
    ap (records_at at (suc n)) regrouped ∙ rw (laws.again x (flat_map spelled xs ++ rest) fits.0, records_again at spelled Fits laws n xs rest fits.1 (omega (arith, len))) refl

pub records_laws : {X : Type 0} {at : List ℕ → Read X} {spelled : X → List ℕ} {Fits : X → Type 0} → Laws at spelled Fits → (n : ℕ)
    → Laws (records_at at n) (λ xs. flat_map spelled xs) (λ xs. AllByRecursion Fits xs × (length xs ≡ n))
records_laws {X} {at} {spelled} {Fits} laws n = record {
  takes = records_take at spelled Fits laws n;
  again = λ xs rest fits. records_again at spelled Fits laws n xs rest fits.0 fits.1;
}

-- records behind their count
pub counted_laws : {X : Type 0} {at : List ℕ → Read X} {spelled : X → List ℕ} {Fits : X → Type 0} → Laws at spelled Fits → {count : List ℕ → Read ℕ} {counted : ℕ → List ℕ} {Small : ℕ → Type 0} → Laws count counted Small
    → Laws (λ bytes. count bytes >>= λ n. records_at at n.0 n.1) (λ xs. counted (length xs) ++ flat_map spelled xs) (λ xs. AllByRecursion Fits xs × Small (length xs))
counted_laws {X} {at} {spelled} {Fits} laws {count} {counted} {Small} small = record {
  takes = λ bytes x fits e.
      let b = bind_ok (count bytes) (λ n. records_at at n.0 n.1) x e in
      let first = small.takes bytes b.0 fits b.1 in
      let second = records_take at spelled Fits laws b.0.0 b.0.1 x first.0.rest_fits b.2 in
      let both = Takes-then bytes (counted b.0.0) b.0.1 (flat_map spelled x.0) x.1 first.0 second.0 in
      let len : length x.0 ≡ b.0.0 = second.1.1 in
      (subst (λ (n : ℕ). Takes bytes (counted n ++ flat_map spelled x.0) x.1) (sym len) both, (second.1.0, subst Small (sym len) first.1));
  again = λ xs rest fits.
      ap (λ (t : List ℕ). count t >>= λ n. records_at at n.0 n.1) (append_assoc (counted (length xs)) (flat_map spelled xs) rest)
      ∙ ap (λ (r : Read ℕ). r >>= λ n. records_at at n.0 n.1) (small.again (length xs) (flat_map spelled xs ++ rest) fits.1)
      ∙ records_again at spelled Fits laws (length xs) xs rest fits.0 refl;
}

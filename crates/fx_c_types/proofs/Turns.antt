-- How the check of a program goes from one declaration to the next.
use Rattle.std.proofs.Common.{◌≡◌, ℕ, ◌+◌, ◌<◌, ◌≤◌, refl, sym, ap, ◌∙◌, List, [], ◌∷◌, ◌++◌, length, drop, get_or, append_assoc, Result, Ok, Err}
use Rattle.std.proofs.lemmas.List.{append-nil, drop_all}
use Rattle.fx_c_ast.specs.declared.parsed.Decl.{Decl}
use Rattle.fx_c_ast.specs.ParsedTrees.{decl_tree}
use Rattle.fx_c_types_rules.specs.declared.fault.Fault.{Fault}
use Rattle.fx_c_types_rules.specs.declared.fault.Fault.TheVariants as fault
use Rattle.fx_c_types_rules.specs.Checks.{Checked, Gives}
use Rattle.fx_c_types_heads.specs.Heads.{HeadsTree, head}
use Rattle.fx_c_types.specs.declared.fault.TypeError.{TypeError}
use Rattle.fx_c_types.specs.declared.program.SourceFile.{SourceFile}
use Rattle.fx_c_types.specs.declared.program.Placed.{Placed}
use Rattle.fx_c_types.specs.Answers.{Answers}
use Rattle.fx_c_types.specs.Programs.{PlacedDecl, BodiesTree, at_declaration, ◌>>>◌, heads_of, body_of, bodies_of}
use Rattle.fx_c_types.specs.ProgramView.{placed_in, placed_trees, declarations}
use Rattle.fx_c_types.proofs.Lists.{split}

pub at_gives : {A B : Type 0} (shown : A → B) (n : ℕ) (r : Result A Fault) (m : Checked B) → Gives shown r m → Answers shown (at_declaration n r) (at_declaration n m)
at_gives shown n (Ok x) m h = ap (at_declaration n) h
at_gives shown n (Err (fault.Rule kind)) m h = λ _. ap (at_declaration n) (h (λ e. cc))
at_gives shown n (Err fault.OutOfMemory) m h = λ ne. absurd (ne refl)

pub heads_next : (n : ℕ) (h g : HeadsTree) (ds : List Placed) (i : ℕ) (d : Placed) (total : Result HeadsTree TypeError) → i < length ds → d ≡ get_or ds i d → at_declaration n (head h d.library (decl_tree d.decl.now)) ≡ Ok g → heads_of n h (placed_trees (drop i ds)) ≡ total → heads_of (n + 1) g (placed_trees (drop (i + 1) ds)) ≡ total
heads_next n h g ds i d total l is here before =
    sym (ap (λ r. r >>> (λ x. heads_of (n + 1) x (placed_trees (drop (i + 1) ds)))) here)
    ∙ ap (λ ps. heads_of n h (placed_trees ps)) (sym (split ds i d l is)) ∙ before

pub heads_stop : (n : ℕ) (h : HeadsTree) (ds : List Placed) (i : ℕ) (d : Placed) (e : TypeError) (total : Result HeadsTree TypeError) → i < length ds → d ≡ get_or ds i d → at_declaration n (head h d.library (decl_tree d.decl.now)) ≡ Err e → heads_of n h (placed_trees (drop i ds)) ≡ total → total ≡ Err e
heads_stop n h ds i d e total l is here before =
    sym before ∙ ap (λ ps. heads_of n h (placed_trees ps)) (split ds i d l is)
    ∙ ap (λ r. r >>> (λ x. heads_of (n + 1) x (placed_trees (drop (i + 1) ds)))) here

pub bodies_next : (n : ℕ) (h : HeadsTree) (b c : BodiesTree) (ds : List Placed) (i : ℕ) (d : Placed) (total : Result BodiesTree TypeError) → i < length ds → d ≡ get_or ds i d → at_declaration n (body_of h b (decl_tree d.decl.now)) ≡ Ok c → bodies_of n h b (placed_trees (drop i ds)) ≡ total → bodies_of (n + 1) h c (placed_trees (drop (i + 1) ds)) ≡ total
bodies_next n h b c ds i d total l is here before =
    sym (ap (λ r. r >>> (λ x. bodies_of (n + 1) h x (placed_trees (drop (i + 1) ds)))) here)
    ∙ ap (λ ps. bodies_of n h b (placed_trees ps)) (sym (split ds i d l is)) ∙ before

pub bodies_stop : (n : ℕ) (h : HeadsTree) (b : BodiesTree) (ds : List Placed) (i : ℕ) (d : Placed) (e : TypeError) (total : Result BodiesTree TypeError) → i < length ds → d ≡ get_or ds i d → at_declaration n (body_of h b (decl_tree d.decl.now)) ≡ Err e → bodies_of n h b (placed_trees (drop i ds)) ≡ total → total ≡ Err e
bodies_stop n h b ds i d e total l is here before =
    sym before ∙ ap (λ ps. bodies_of n h b (placed_trees ps)) (split ds i d l is)
    ∙ ap (λ r. r >>> (λ x. bodies_of (n + 1) h x (placed_trees (drop (i + 1) ds)))) here

-- one more declaration of a file
pub next_placed : (library : ℕ) (ds : List Decl) (j : ℕ) (d : Decl) (ps qs total : List PlacedDecl) → j < length ds → d ≡ get_or ds j d → qs ≡ ps ++ record { library = library; decl = decl_tree d } ∷ [] → ps ++ placed_in library (drop j ds) ≡ total → qs ++ placed_in library (drop (j + 1) ds) ≡ total
next_placed library ds j d ps qs total l is same before =
    ap (λ q. q ++ placed_in library (drop (j + 1) ds)) same
    ∙ append_assoc ps (record { library = library; decl = decl_tree d } ∷ []) (placed_in library (drop (j + 1) ds))
    ∙ ap (λ r. ps ++ placed_in library r) (sym (split ds j d l is)) ∙ before

-- all declarations of a file
pub next_file : (fs : List SourceFile) (i : ℕ) (f : SourceFile) (j : ℕ) (ps qs total : List PlacedDecl) → i < length fs → f ≡ get_or fs i f → length f.unit.decls ≤ j → qs ++ placed_in f.library (drop j f.unit.decls) ≡ ps ++ placed_in f.library f.unit.decls → ps ++ declarations (drop i fs) ≡ total → qs ++ declarations (drop (i + 1) fs) ≡ total
next_file fs i f j ps qs total l is past same before =
    ap (λ q. q ++ declarations (drop (i + 1) fs)) (sym (append-nil qs) ∙ ap (λ r. qs ++ placed_in f.library r) (sym (drop_all j f.unit.decls past)) ∙ same)
    ∙ append_assoc ps (placed_in f.library f.unit.decls) (declarations (drop (i + 1) fs))
    ∙ ap (λ r. ps ++ declarations r) (sym (split fs i f l is)) ∙ before

-- One rule in front of others.
use Rattle.std.proofs.Common.{Bool, true, false, ◌&&◌, ◌||◌, not, if◌then◌else◌, Option, Some, Ok, Err, refl}
use Rattle.fx_c_types_rules.specs.declared.fault.TypeKind.{TypeKind}
use Rattle.fx_c_types_rules.specs.declared.fault.Fault.TheVariants as fault
use Rattle.fx_c_types_rules.specs.Checks.{Checked, ◌>>=◌, demand}
use Rattle.fx_c_types_refusals_law.specs.Kinds.{IsRefusedFor}

pub demanded : {A : Type 0} (test : Bool) (kind : TypeKind) (r : Checked A) (k : Option TypeKind) → IsRefusedFor r k → IsRefusedFor (demand test kind r) (if not test then Some kind else k)
demanded true kind r k h = h
demanded false kind r k h = refl

pub forbidden : {A : Type 0} (test : Bool) (kind : TypeKind) (r : Checked A) (k : Option TypeKind) → IsRefusedFor r k → IsRefusedFor (demand (not test) kind r) (if test then Some kind else k)
forbidden true kind r k h = refl
forbidden false kind r k h = h

-- two rules of one kind
pub demanded_both : {A : Type 0} (test other : Bool) (kind : TypeKind) (r : Checked A) (k : Option TypeKind) → IsRefusedFor r k → IsRefusedFor (demand test kind (demand (not other) kind r)) (if not test || other then Some kind else k)
demanded_both true true kind r k h = refl
demanded_both true false kind r k h = h
demanded_both false other kind r k h = refl

pub forbidden_both : {A : Type 0} (test other : Bool) (kind : TypeKind) (r : Checked A) (k : Option TypeKind) → IsRefusedFor r k → IsRefusedFor (demand (not test) kind (demand (not other) kind r)) (if test || other then Some kind else k)
forbidden_both true other kind r k h = refl
forbidden_both false true kind r k h = refl
forbidden_both false false kind r k h = h

-- what follows a rule follows behind it
pub demanded_before : {A B : Type 0} (test : Bool) (kind : TypeKind) (r : Checked A) (f : A → Checked B) (k : Option TypeKind) → IsRefusedFor (r >>= f) k → IsRefusedFor (demand test kind r >>= f) (if not test then Some kind else k)
demanded_before true kind r f k h = h
demanded_before false kind r f k h = refl

-- the same, beside another part of the rule's test that holds
pub demanded_or : {A : Type 0} (test : Bool) (kind : TypeKind) (r : Checked A) (k : Option TypeKind) → IsRefusedFor r k → IsRefusedFor (demand test kind r) (if not test || false then Some kind else k)
demanded_or true kind r k h = h
demanded_or false kind r k h = refl

pub demanded_and : {A : Type 0} (test other : Bool) (kind : TypeKind) (r : Checked A) (k : Option TypeKind) → IsRefusedFor r k → IsRefusedFor (demand (test && other) kind r) (if not test || not other then Some kind else k)
demanded_and true true kind r k h = h
demanded_and true false kind r k h = refl
demanded_and false other kind r k h = refl

-- two rules of one kind before others
pub demanded_two : {A B : Type 0} (test other : Bool) (kind : TypeKind) (r : Checked A) (f : A → Checked B) (k : Option TypeKind) → IsRefusedFor (r >>= f) k → IsRefusedFor (demand test kind (demand other kind r) >>= f) (if not test || not other then Some kind else k)
demanded_two true true kind r f k h = h
demanded_two true false kind r f k h = refl
demanded_two false other kind r f k h = refl

pub demanded_twice : {A B : Type 0} (test other : Bool) (kind : TypeKind) (r : Checked A) (f : A → Checked B) (k : Option TypeKind) → IsRefusedFor (r >>= f) k → IsRefusedFor (demand test kind (demand other kind r) >>= f) (if not (test && other) then Some kind else k)
demanded_twice true true kind r f k h = h
demanded_twice true false kind r f k h = refl
demanded_twice false other kind r f k h = refl

-- what is made of an answer is refused as that is
pub mapped : {A B : Type 0} (r : Checked A) (f : A → B) (k : Option TypeKind) → IsRefusedFor r k → IsRefusedFor (r >>= (λ x. Ok (f x))) k
mapped (Ok x) f k h = h
mapped (Err (fault.Rule j)) f k h = h
mapped (Err fault.OutOfMemory) f k h = absurd h

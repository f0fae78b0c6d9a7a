-- The rights of a configuration as plain data, and what they say of accesses, stacks and gates. The whole
-- file is this project's own.
use Rattle.std.specs.Prelude.{ℕ, ◌*◌, ◌/◌, ◌%◌, ◌^◌, Bool, false, not, ◌||◌, nat_eq, slice_index, slice_index_or, if◌then◌else◌}
use Rattle.fx_c_mean_blocks.specs.declared.block.Place.{Place}
use Rattle.fx_c_mean_blocks.specs.declared.block.Place.TheVariants.{Global, Literal, Local}
use Rattle.fx_c_ast.specs.CheckedTrees.{VoidTy}
use Rattle.fx_c_mean_model.specs.Programs.{Variable, Program, function_at}
use Rattle.fx_c_mean_model.specs.declared.rights.Rights.{Rights}

-- a set of compartments is a number whose bit c tells of compartment c
abbrev pub is_member : ℕ → ℕ → Bool
is_member c set = nat_eq (set / 2 ^ c % 2) 1

-- the compartment of a function: that of its library
abbrev pub home : Program → Rights → ℕ → ℕ
home p r f = slice_index r.homes (function_at p f).library

abbrev pub no_variable : Variable
no_variable = record { shared = false; ty = VoidTy }

abbrev pub is_shared : Program → ℕ → ℕ → Bool
is_shared p f local = (slice_index_or (function_at p f).variables local no_variable).shared

-- whether compartment c may read, or write, an object. A literal is read by all and written by none. Where
-- gates are plain calls, everything else is granted. Elsewhere a global has its sets, and a local is its
-- compartment's own where compartments have stacks of their own, unless it is shared.
abbrev pub may : Program → Rights → ℕ → Place → Bool → Bool
may p r c (Literal n) write = not write
may p r c (Global n) write = not r.guarded || is_member c (slice_index (if write then r.writers else r.readers) n)
may p r c (Local f local) write = not r.guarded || not r.own_stacks || is_shared p f local || nat_eq c (home p r f)

-- the number of the stack of a thread that a function's frames stand on
abbrev pub stack_of : Program → Rights → ℕ → ℕ
stack_of p r f = if r.own_stacks then home p r f else 0

-- the bytes of a stack
abbrev pub stack_size : Rights → ℕ
stack_size r = 4096 * r.stack_pages

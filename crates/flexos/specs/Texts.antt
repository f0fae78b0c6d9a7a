-- The texts of the commands that only write one.
use Rattle.std.specs.Prelude.{◌≡◌, ℕ, List, [], ◌∷◌, ◌++◌, ◌⊎◌, Option, codes}
use Rattle.fx_base.specs.Faults.{Rose}
use Rattle.fx_base.specs.Told.{Told}
use Rattle.fx_cmd_base.specs.Streams.{Streams, Gained, TookNothing}
use Rattle.fx_cmd_base.specs.Ends.{ErrorStream, GainedPart, Ended, write_fault, write_fault_line}

-- what the program is
abbrev pub help_head : List ℕ
help_head =
    codes "FlexOS 0.1: the compartments of a program, kept apart as its build says.\n\n"

-- each command with its words and statuses
abbrev pub help_commands : List ℕ
help_commands =
    codes "Words                      What is done                                  Status\n"
    ++ (codes "exec CONF IMAGE [OPTIONS]  builds the image of CONF, writes it, runs it  0 3-6 8\n"
    ++ (codes "run IMAGE [OPTIONS]        runs the image                                0 1 3-12\n"
    ++ (codes "single CONF [--steps N]    runs CONF's sources, all in one compartment   0 3-12\n"
    ++ (codes "place CONF                 writes where CONF's objects lie               0 3-6\n"
    ++ (codes "build CONF IMAGE           writes the image of CONF's sources            0 3-6\n"
    ++ (codes "show IMAGE                 writes what the image holds                   0 3-6\n"
    ++ (codes "migrate OLD NEW            writes the image OLD under NEW, in version 2  0 3-6\n"
    ++ (codes "help, --help, -h           writes this text                              0 5\n"
    ++ (codes "--version                  writes the version                            0 5\n"
    ++ 10 ∷ [])))))))))

-- the options of a run
abbrev pub help_options : List ℕ
help_options =
    codes "OPTIONS, in any order, each at most once\n"
    ++ (codes "--steps N                  makes N turns at most, in place of 50000000\n"
    ++ (codes "--schedule FILE            lets byte i of FILE name the vCPU of turn i\n"
    ++ codes "--unplug D N               unplugs device D, 1 to 15, behind N operations\n\n"))

-- what each status says
abbrev pub help_statuses : List ℕ
help_statuses =
    codes "Status: 0 done, or a run ended by Exit. 1 an access was denied. 2 usage.\n"
    ++ (codes "3 refused. 4 a file's fault. 5 a write fault. 6 out of memory. 7 a stack is full.\n"
    ++ (codes "8 steps spent. 9 Divide, BadThread or ThreadsFull. 10 broken. 11 a device's fault.\n"
    ++ codes "12 a read fault.\n"))

unfoldable pub help_text : List ℕ
help_text = help_head ++ (help_commands ++ (help_options ++ help_statuses))

unfoldable pub version_text : List ℕ
version_text = codes "flexos 0.1\n"

-- The output took the text, and the error stream nothing; or the output failed in it, and the line
-- is that of a write fault. `fine` and `failed` are the output's counts of faults.
abbrev pub PutsText : List ℕ → Option (List ℕ) → Option (List ℕ) → ℕ → ℕ → ℕ → ErrorStream → Type 0
PutsText text taken gained fine failed result err =
    ((result ≡ 0) × Told (Gained text) taken gained × Told TookNothing err.told err.printed)
    ⊎ (Rose fine failed × Told (GainedPart text) taken gained
    × Ended write_fault write_fault_line result err)

-- A command that only puts a text: neither the files nor the input is touched.
pub record DoesText
    (text : List ℕ) (before after : Streams) (result : ℕ) (err : ErrorStream) : Type 0 where
  pub puts : PutsText text before.taken after.taken before.output_faults after.output_faults
      result err
  pub keeps : after ≡ record before { taken = after.taken; output_faults = after.output_faults }

-- The one that ended with status 0: the output gained exactly the text, and the error stream
-- nothing.
pub record DoneText (text : List ℕ) (before after : Streams) (err : ErrorStream) : Type 0 where
  pub put : Told (Gained text) before.taken after.taken
  pub quiet : Told TookNothing err.told err.printed

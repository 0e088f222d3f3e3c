-- The theorems of request #105 at concrete tables, roles, lists of calls, places and lent memory: their premises can be met, and what they then say is written out.
-- The granted calls are those of restart_program's instance, so that its text, its answers and its panels must come out.
use Prim.Native.Nat.{ℕ, ◌≤◌}
use mathlib.Core.Path.{◌≡◌, refl, sym, ap, ◌∙◌, subst}
use mathlib.Core.Bool.{Bool, true, false}
use mathlib.Core.List.{List, [], ◌∷◌, ◌++◌, map}
use mathlib.Core.Option.{some}
use lib.ListN.{length, take, drop, set, replicate}
use lib.Ieee as Ieee
use lib.Ieee.{nan}
use Rattle.trcf.specs.Fit.{All}
use Rattle.trcf.specs.Lists as Lists
use Rattle.trcf.specs.Settings as Settings
use Rattle.trcf.specs.Settings.{block, dimension}
use Rattle.trcf.specs.Calls as Calls
use Rattle.trcf.specs.Calls.{Call, Machine, shingled_point}
use Rattle.trcf.specs.Preprocessor.{fresh, Answer, refused, panel_of}
use Rattle.trcf.specs.View.{lent_short, no_head, alone, Getters}
use Rattle.snapshot.specs.Text.{render}
use Rattle.snapshot.specs.Read.{taken}
use Rattle.snapshot.specs.Save as save
use Rattle.restart.specs.History as History
use Rattle.restart.specs.History.{entries, history_text, history_answers, history_panels, history_shown}
use Rattle.restart.specs.Statement.{Demand3}
use Rattle.restart.specs.Held.{Held, held, built_on, saved_to}
use Rattle.restart_program.specs.Program.{point, answer_read, ProgramDemand3}
use Rattle.restart_program.proofs.Instances.{one, strands, strands_valid, stranding, stranding_machine, all_take, all_drop, stranded_text, stranding_text, one_room, one_fits, stranding_fed}
use Rattle.restart_program.proofs.Instances.{stranding_fed_first, dirty, filthy, text_fits, last_fits, first_fits, point_answer, learn_answer, ruled}
use Rattle.access.specs.declared.rights.Right.TheVariants.{SEE, SAVE, RESTORE}
use Rattle.access.specs.Access.{granted, every_right}
use Rattle.access_restart.specs.Asked.{ask, allowed, granted_calls, with_withheld}
use Rattle.access_restart.specs.RoleDemand.{withheld_answer, role_run, role_answers, gave, role_save, role_panels, role_history_panels, RoleRestart, RoleEvent, asked, role_restarted, role_events}
use Rattle.access_restart.specs.RoleDemand.{role_event_answers, RoleRestarts}
use Rattle.access_restart.specs.RoleHeld.{number, number_by, held_role_run, held_role_answers, role_saved_to, role_text_in, role_restored_on, GettersShown, getters_shown, held_role_shown, shown_at, RoleHeldRestart}
use Rattle.access_restart.specs.RoleProgram.{role_return, role_ran, role_returns, role_panels_returned, role_getters_shown, RoleProgramRestart}
use Rattle.access_restart.proofs.Samples.{bad_tables, garage, morning, evening, day, counted_morning, counted_evening, counted}
use Rattle.access_restart.proofs.Granted.{stayed}
use Rattle.access_restart.proofs.RoleRestart.{fed_places, role_demand_3}
use Rattle.access_restart.proofs.Composed.{shown_places}
use Rattle.access_restart.proofs.RoleHeld.{role_held_demand_3}
use Rattle.access_restart.proofs.RoleProgram.{program_isolation, program_granted, each_getter, role_program_demand_3}
use Rattle.access_restart.proofs.Plain.{plain, plain_program}

-- ---- the day of proofs/Samples: role 3 saves, role 0 restores, role 1 looks

machine_morning : All Machine (granted_calls garage morning)
machine_morning = subst (All Machine) (sym counted_morning) (all_take Machine 4 stranding stranding_machine)

machine_evening : All Machine (granted_calls garage evening)
machine_evening = subst (All Machine) (sym counted_evening) (all_drop Machine 4 stranding stranding_machine)

machine_day : All Machine (granted_calls garage day)
machine_day = subst (All Machine) (sym counted) stranding_machine

saver : granted garage 3 (SAVE ∷ []) ≡ true
unfolding granted
saver = refl

restorer : granted garage 0 (RESTORE ∷ []) ≡ true
unfolding granted
restorer = refl

viewer : granted garage 1 (SEE ∷ []) ≡ true
unfolding granted
viewer = refl

-- in the middle, before the first call and after the last
restart_middle : RoleRestart garage strands 3 0 morning evening
restart_middle = role_demand_3.once garage strands strands_valid 3 0 saver restorer morning evening machine_morning

restart_first : RoleRestart garage strands 3 0 [] day
restart_first = role_demand_3.once garage strands strands_valid 3 0 saver restorer [] day tt

restart_last : RoleRestart garage strands 3 0 day []
restart_last = role_demand_3.once garage strands strands_valid 3 0 saver restorer day [] machine_day

-- the text of the whole day is that of the granted calls, byte for byte
text_last : role_save garage 3 (role_run garage (fresh strands) day) ≡ gave stranded_text
text_last = restart_last.text ∙ ap (λ (cs : List Call). gave (history_text strands cs)) counted ∙ ap gave stranding_text

-- ---- answers: 22 for role 4, the point, 22, the learn, 22, and 20

abbrev evening_answers : List Answer
evening_answers = refused 22 ∷ point_answer ∷ refused 22 ∷ learn_answer ∷ refused 22 ∷ refused 20 ∷ []

placed_evening : with_withheld withheld_answer garage evening (point_answer ∷ learn_answer ∷ refused 20 ∷ []) ≡ evening_answers
unfolding granted
placed_evening = refl

ruled_evening : with_withheld withheld_answer garage evening (history_answers strands (entries strands (granted_calls garage morning)) (granted_calls garage evening)) ≡ evening_answers
ruled_evening =
    (λ j. with_withheld withheld_answer garage evening (history_answers strands (entries strands (counted_morning j)) (counted_evening j)))
    ∙ ap (with_withheld withheld_answer garage evening) ruled
    ∙ placed_evening

answers_evening : role_answers garage restart_middle.second evening ≡ evening_answers
answers_evening = restart_middle.outlives.ruled_answers ∙ ruled_evening

-- ---- the panel that role 1 is told at each place: a withheld call feeds nothing

abbrev fed_evening : List ℕ
fed_evening = 1 ∷ 1 ∷ 1 ∷ 1 ∷ 2 ∷ 2 ∷ 2 ∷ []

abbrev fed_day : List ℕ
fed_day = 0 ∷ 0 ∷ 0 ∷ 0 ∷ 0 ∷ 1 ∷ 1 ∷ 1 ∷ 1 ∷ 1 ∷ 1 ∷ 2 ∷ 2 ∷ 2 ∷ []

module _ {P : Type 0} (a b c d : P) where
  stayed_evening : stayed garage evening (a ∷ b ∷ c ∷ d ∷ []) ≡ a ∷ a ∷ b ∷ b ∷ c ∷ c ∷ d ∷ []
  unfolding granted
  stayed_evening = refl

  stayed_day : (e f g h : P) → stayed garage day (a ∷ b ∷ c ∷ d ∷ e ∷ f ∷ g ∷ h ∷ []) ≡ a ∷ a ∷ b ∷ c ∷ c ∷ d ∷ d ∷ e ∷ e ∷ f ∷ f ∷ g ∷ g ∷ h ∷ []
  unfolding granted
  stayed_day e f g h = refl

module _ {P : Type 0} (f : ℕ → P) where
  fed_evening_lem : map f (role_history_panels garage strands (entries strands (granted_calls garage morning)) evening) ≡ map f fed_evening
  fed_evening_lem =
      fed_places garage strands f (entries strands (granted_calls garage morning)) evening
      ∙ (λ j. stayed garage evening (map f (history_panels strands (entries strands (counted_morning j)) (counted_evening j))))
      ∙ ap (λ (l : List ℕ). stayed garage evening (map f l)) stranding_fed
      ∙ stayed_evening (f 1) (f 1) (f 2) (f 2)

  fed_day_lem : map f (role_history_panels garage strands [] day) ≡ map f fed_day
  fed_day_lem =
      fed_places garage strands f [] day
      ∙ ap (λ (cs : List Call). stayed garage day (map f (history_panels strands [] cs))) counted
      ∙ ap (λ (l : List ℕ). stayed garage day (map f l)) stranding_fed_first
      ∙ stayed_day (f 0) (f 0) (f 0) (f 1) (f 1) (f 1) (f 2) (f 2)

panels_evening : role_panels garage 1 one_room restart_middle.second evening ≡ map some fed_evening
panels_evening = restart_middle.outlives.fed_panels 1 viewer one_room one_fits ∙ fed_evening_lem some

panels_day : role_panels garage 1 one_room (fresh strands) day ≡ map some fed_day
panels_day = restart_first.fed_panels 1 viewer one_room one_fits ∙ fed_day_lem some

-- ---- what the getters answer it there: readings seen, shingled, whether the shingle is full, and the panel; the rest is the settings'

abbrev tell : ℕ → ℕ → Bool → ℕ → Getters
tell seen internal full fed =
    record {
      values_seen = seen;
      internal_timestamp = internal;
      ready = full;
      input_dimensions = 1;
      shingle_size = 2;
      dimensions = 2;
      method = 4;
      mode = 83;
      start = 1;
      panel = fed;
    }

abbrev one_in : Getters
one_in = tell 2 1 false 1

abbrev two_in : Getters
two_in = tell 3 2 true 2

abbrev getters_evening : List Getters
getters_evening = one_in ∷ one_in ∷ one_in ∷ one_in ∷ two_in ∷ two_in ∷ two_in ∷ []

abbrev getters_day : List Getters
getters_day = tell 0 0 false 0 ∷ tell 0 0 false 0 ∷ tell 1 0 false 0 ∷ tell 1 0 false 0 ∷ tell 1 0 false 0 ∷ one_in ∷ one_in ∷ getters_evening

-- to unfold this is to unfold whatever its line names
counting : Unit {0}
unfolding Ieee.of_bits Ieee.to_bits Ieee.size Ieee.eq Ieee.lt Ieee.le Settings.block Settings.dimension Settings.waiting Settings.all_one Settings.settings_row Lists.last_n Lists.shift_in Lists.overwrite Calls.finite Calls.due Calls.newest Calls.before_newest Calls.wrong_length Calls.outside Calls.drain_full Calls.learn_full Calls.waiting_short Calls.learn_short Calls.table Calls.rows History.seen_of History.internal_of History.buffer_of History.shingled History.inputs_of History.timestamps_of History.newest_reading History.count_of History.history_state History.history_facts History.history_refusal History.complete History.adds History.enter History.entries History.history_panel History.history_getters
counting = tt

told_evening : history_shown strands (entries strands (take 4 stranding)) (drop 4 stranding) ≡ one_in ∷ one_in ∷ two_in ∷ two_in ∷ []
unfolding counting
told_evening = refl

told_day : history_shown strands [] stranding
    ≡ tell 0 0 false 0 ∷ tell 1 0 false 0 ∷ tell 1 0 false 0 ∷ one_in ∷ one_in ∷ one_in ∷ two_in ∷ two_in ∷ []
unfolding counting
told_day = refl

shown_evening : map (getters_shown 0) (shown_at garage strands (entries strands (granted_calls garage morning)) evening) ≡ map (getters_shown 0) getters_evening
shown_evening =
    shown_places garage strands (getters_shown 0) (entries strands (granted_calls garage morning)) evening
    ∙ (λ j. stayed garage evening (map (getters_shown 0) (history_shown strands (entries strands (counted_morning j)) (counted_evening j))))
    ∙ ap (λ (l : List Getters). stayed garage evening (map (getters_shown 0) l)) told_evening
    ∙ stayed_evening (getters_shown 0 one_in) (getters_shown 0 one_in) (getters_shown 0 two_in) (getters_shown 0 two_in)

shown_day : map (getters_shown 0) (shown_at garage strands [] day) ≡ map (getters_shown 0) getters_day
shown_day =
    let blank : GettersShown = getters_shown 0 (tell 0 0 false 0) in
    let held_back : GettersShown = getters_shown 0 (tell 1 0 false 0) in
    shown_places garage strands (getters_shown 0) [] day
    ∙ ap (λ (cs : List Call). stayed garage day (map (getters_shown 0) (history_shown strands [] cs))) counted
    ∙ ap (λ (l : List Getters). stayed garage day (map (getters_shown 0) l)) told_day
    ∙ stayed_day blank held_back held_back (getters_shown 0 one_in) (getters_shown 0 one_in) (getters_shown 0 one_in) (getters_shown 0 two_in) (getters_shown 0 two_in)

-- ---- restarts by roles that may, by one that may not save and by one that may not restore

abbrev events : List RoleEvent
events = role_restarted 0 0 ∷ (map asked morning ++ (role_restarted 3 0 ∷ role_restarted 1 0 ∷ role_restarted 3 2 ∷ (map asked evening ++ (role_restarted 4 9 ∷ role_restarted 0 3 ∷ []))))

restarts_day : RoleRestarts garage strands events
restarts_day = role_demand_3.often garage strands strands_valid events machine_day

ends_day : role_events garage (taken (fresh strands)) events ≡ taken (role_run garage (fresh strands) day)
ends_day = restarts_day.ends

-- where the table is none, every call is 22 and nothing is counted
withheld_day : map (λ (t : List ℕ). granted_calls t day) bad_tables ≡ replicate 3 []
unfolding granted
withheld_day = refl

module _ (t : List ℕ) (none-counted : granted_calls t day ≡ []) where
  restarts_none : RoleRestarts t strands events
  restarts_none = role_demand_3.often t strands strands_valid events (subst (All Machine) (sym none-counted) tt)

  text_none : render (role_run t (fresh strands) day) ≡ history_text strands []
  text_none = restarts_none.text ∙ ap (history_text strands) none-counted

answers_short : role_event_answers (take 15 every_right) (taken (fresh strands)) events ≡ replicate 13 (refused 22)
unfolding granted
answers_short = (restarts_none (take 15 every_right) refl).ruled_answers

answers_long : role_event_answers (1 ∷ every_right) (taken (fresh strands)) events ≡ replicate 13 (refused 22)
unfolding granted
answers_long = (restarts_none (1 ∷ every_right) refl).ruled_answers

answers_two : role_event_answers (set every_right 15 2) (taken (fresh strands)) events ≡ replicate 13 (refused 22)
unfolding granted
answers_two = (restarts_none (set every_right 15 2) refl).ruled_answers

-- ---- the same over memory that is too long and holds something else, for both and for the text

dirty_long : lent_short strands dirty ≡ false
unfolding lent_short block dimension
dirty_long = refl

filthy_long : lent_short strands filthy ≡ false
unfolding lent_short block dimension
filthy_long = refl

abbrev room : List ℕ
room = replicate 1000 10

text_long : length (history_text strands (granted_calls garage morning)) ≤ length room
text_long = subst (λ (cs : List Call). length (history_text strands cs) ≤ 1000) (sym counted_morning) text_fits

abbrev held_first : Held
held_first = held_role_run garage (built_on strands dirty) morning

abbrev held_second : Held
held_second = role_restored_on garage 0 (role_text_in garage 3 held_first room) (7 ∷ []) filthy

held_middle : RoleHeldRestart garage 3 0 strands morning evening dirty filthy room (replicate 726 255) held_first held_second
held_middle =
    role_held_demand_3 garage 3 0 saver restorer strands strands_valid morning evening machine_morning machine_evening dirty filthy
    dirty_long filthy_long room (replicate 726 255) text_long

held_evening : held_role_answers garage held_second evening ≡ evening_answers
held_evening = held_middle.ruled_answers ∙ ruled_evening

held_shown_lem : held_role_shown garage 1 held_second evening ≡ map (getters_shown 0) getters_evening
held_shown_lem = held_middle.fed_shown 1 viewer ∙ shown_evening

-- composed by access's contracts
abbrev first : Held
first = role_ran garage (built_on strands dirty) morning

abbrev second : Held
second = role_restored_on garage 0 (role_text_in garage 3 first room) (7 ∷ []) filthy

program_middle : RoleProgramRestart garage 3 0 strands morning evening dirty filthy room (replicate 726 255) first second
program_middle =
    role_program_demand_3 garage 3 0 saver restorer strands strands_valid morning evening machine_morning machine_evening dirty filthy
    dirty_long filthy_long room (replicate 726 255) text_long

program_evening : map answer_read (role_returns garage second evening) ≡ evening_answers
program_evening = program_middle.ruled_answers ∙ ruled_evening

program_panels : role_panels_returned garage 1 one_room second evening ≡ map some fed_evening
program_panels = program_middle.fed_panels 1 viewer one_room one_fits ∙ fed_evening_lem some

program_panels_day : role_panels_returned garage 1 one_room (built_on strands dirty) day ≡ map some fed_day
program_panels_day = program_middle.first_panels 1 viewer one_room one_fits ∙ fed_day_lem some

program_shown : role_getters_shown garage 1 second evening ≡ map (getters_shown 0) getters_evening
program_shown = program_middle.fed_shown 1 viewer ∙ shown_evening

program_shown_day : role_getters_shown garage 1 (built_on strands dirty) day ≡ map (getters_shown 0) getters_day
program_shown_day = program_middle.first_shown 1 viewer ∙ shown_day

-- one getter alone, after the restart: to role 1, which may see, and to role 3, which may not
front : {P : Type 0} {x y : P} {l m : List P} → x ∷ l ≡ y ∷ m → x ≡ y
front e = cc

panel_to_1 : number_by garage 1 (panel_of (alone second.head)) ≡ number 0 1
panel_to_1 = (each_getter garage 1 second).fed ∙ ap (λ (x : GettersShown). number x.row x.getters.panel) (front program_shown)

panel_to_3 : number_by garage 3 (panel_of (alone second.head)) ≡ number 22 0
unfolding granted
panel_to_3 = (each_getter garage 3 second).fed

-- both ends as places: after the last call 726 bytes are enough
abbrev exact : List ℕ
exact = replicate 726 0

last_long : length (history_text strands (granted_calls garage day)) ≤ length exact
last_long = subst (λ (cs : List Call). length (history_text strands cs) ≤ 726) (sym counted) last_fits

program_last : RoleProgramRestart garage 3 0 strands day [] dirty filthy exact [] (role_ran garage (built_on strands dirty) day)
    (role_restored_on garage 0 (role_text_in garage 3 (role_ran garage (built_on strands dirty) day) exact) (7 ∷ []) filthy)
program_last =
    role_program_demand_3 garage 3 0 saver restorer strands strands_valid day [] machine_day tt dirty filthy dirty_long filthy_long exact [] last_long

program_first : RoleProgramRestart garage 3 0 strands [] day dirty filthy room [] (built_on strands dirty)
    (role_restored_on garage 0 (role_text_in garage 3 (built_on strands dirty) room) (7 ∷ []) filthy)
program_first =
    role_program_demand_3 garage 3 0 saver restorer strands strands_valid [] day tt machine_day dirty filthy dirty_long filthy_long room [] first_fits

program_text : role_text_in garage 3 (role_ran garage (built_on strands dirty) day) exact ≡ stranded_text
program_text = program_last.text ∙ ap (history_text strands) counted ∙ stranding_text

-- ---- isolation: a preprocessor in use and a head that no `build` made, over different memories

abbrev other : Held
other = held no_head filthy

seeing : allowed garage (ask 1 (shingled_point (one ∷ []) 6 (nan ∷ []))) ≡ false
unfolding granted
seeing = refl

point_alike : role_return garage first 1 (shingled_point (one ∷ []) 6 (nan ∷ [])) ≡ role_return garage other 1 (shingled_point (one ∷ []) 6 (nan ∷ []))
point_alike = (program_isolation garage).alike (ask 1 (shingled_point (one ∷ []) 6 (nan ∷ []))) seeing first other

point_withheld : role_return garage first 1 (shingled_point (one ∷ []) 6 (nan ∷ [])) ≡ point 22 false (nan ∷ [])
point_withheld = (program_isolation garage).withheld (ask 1 (shingled_point (one ∷ []) 6 (nan ∷ []))) seeing first

no_saver : granted garage 1 (SAVE ∷ []) ≡ false
unfolding granted
no_saver = refl

nothing_saved : role_saved_to garage 1 first (5 ∷ 6 ∷ []) ≡ save.save_outcome 22 0 (5 ∷ 6 ∷ [])
nothing_saved = (program_isolation garage).saves_nothing 1 no_saver first (5 ∷ 6 ∷ [])

saved_by_3 : role_saved_to garage 3 first exact ≡ saved_to first exact
saved_by_3 = (program_granted garage).saves 3 saver first exact

-- ---- "programs run as one with every right"

as_before : Demand3
as_before = plain role_demand_3

program_as_before : ProgramDemand3
program_as_before = plain_program role_program_demand_3

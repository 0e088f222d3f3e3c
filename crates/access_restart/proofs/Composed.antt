-- What demand 3 of the granted calls says of what a program holds carries over to all calls with their roles, whichever way the calls are composed: `runs` goes
-- through a list of calls, `roleRuns` through one with roles, and `run_is` says that the second is the first over the granted calls. Assumes nothing.
use Prim.Native.Nat.{ℕ}
use mathlib.Core.Path.{◌≡◌, refl, sym, ap, ◌∙◌}
use mathlib.Core.Bool.{true, cond}
use mathlib.Core.List.{List, [], ◌∷◌, ◌++◌, map}
use lib.ListN.{take}
use Rattle.trcf.specs.Settings.{Settings}
use Rattle.trcf.specs.Calls.{Call}
use Rattle.trcf.specs.View.{Lent, Getters}
use Rattle.snapshot.specs.Save as save
use Rattle.snapshot.specs.Restore as restore
use Rattle.restart.specs.History.{Entry, enter, entries, history_getters, history_shown}
use Rattle.restart.specs.Held.{Held, held, built_on, saved_to, text_in, restored_on}
use Rattle.access.specs.declared.rights.Right.TheVariants.{SAVE, RESTORE}
use Rattle.access.specs.Access.{granted}
use Rattle.access.specs.Entries.{restore_by}
use Rattle.access_restart.specs.Asked.{Asked, granted_calls}
use Rattle.access_restart.specs.RoleHeld.{role_saved_to, role_text_in, role_restored_on, shown_at}
use Rattle.access_restart.proofs.Granted.{stayed, granted_append, places_read}

-- what the getters answer of the history, as `fed_places` (proofs/RoleRestart) is of the panel
module _ {P : Type 0} (table : List ℕ) (s : Settings) (f : Getters → P) where
  pub shown_places : (es : List Entry) (l : List Asked) → map f (shown_at table s es l) ≡ stayed table l (map f (history_shown s es (granted_calls table l)))
  shown_places = places_read (enter s) table f (history_getters s) (history_shown s) (λ h. refl) (λ h c cs. refl)

module _ (table : List ℕ) (runs : Held → List Call → Held) (roleRuns : Held → List Asked → Held)
    (run_is : (m : Held) (l : List Asked) → roleRuns m l ≡ runs m (granted_calls table l))
    (saver restorer : ℕ) (p : granted table saver (SAVE ∷ []) ≡ true) (q : granted table restorer (RESTORE ∷ []) ≡ true)
    (s : Settings) (before after : List Asked) (first second : Lent) (out : List ℕ) where
  -- the granted calls
  abbrev B : List Call
  B = granted_calls table before

  abbrev A : List Call
  A = granted_calls table after

  both : granted_calls table (before ++ after) ≡ B ++ A
  both = granted_append table before after

  -- the first preprocessor, and the one that took its text up; with roles, and by the granted calls
  abbrev M : Held
  M = roleRuns (built_on s first) before

  abbrev M₀ : Held
  M₀ = runs (built_on s first) B

  abbrev N : Held
  N = role_restored_on table restorer (role_text_in table saver M out) s.codes second

  abbrev N₀ : Held
  N₀ = restored_on (text_in M₀ out) s.codes second

  m_is : M ≡ M₀
  m_is = run_is (built_on s first) before

  saved : role_saved_to table saver M out ≡ saved_to M₀ out
  saved = rw p (ap (λ (m : Held). saved_to m out) m_is)

  text_is : role_text_in table saver M out ≡ text_in M₀ out
  text_is = ap (λ (o : save.SaveOutcome). take o.length o.bytes) saved

  restored : restore_by table restorer (role_text_in table saver M out) s.codes second ≡ restore.restore_of (text_in M₀ out) s.codes second
  restored = rw q (ap (λ (t : List ℕ). restore.restore_of t s.codes second) text_is)

  n_is : N ≡ N₀
  n_is = ap (λ (o : restore.RestoreOutcome). held o.head o.lent) restored

  -- the same bytes, or 20 of both, or 22 of both, whoever saves
  same_text_lem : (last : List ℕ) → saved_to (runs N₀ A) last ≡ saved_to (runs (built_on s first) (B ++ A)) last
      → (role : ℕ) → role_saved_to table role (roleRuns N after) last ≡ role_saved_to table role (roleRuns (built_on s first) (before ++ after)) last
  same_text_lem last e role =
      ap (λ (o : save.SaveOutcome). cond (granted table role (SAVE ∷ [])) o (save.save_outcome 22 0 last))
      (ap (λ (m : Held). saved_to m last) (run_is N after ∙ ap (λ (m : Held). runs m A) n_is)
      ∙ e
      ∙ ap (λ (cs : List Call). saved_to (runs (built_on s first) cs) last) (sym both)
      ∙ ap (λ (m : Held). saved_to m last) (sym (run_is (built_on s first) (before ++ after))))

  -- what is seen at each place: `rules` is what the history says of the granted calls, `roleRules` of all calls with their roles
  module _ {P : Type 0} (rules : List Entry → List Call → List P) (roleRules : List Entry → List Asked → List P)
      (rule-is : (es : List Entry) (l : List Asked) → roleRules es l ≡ stayed table l (rules es (granted_calls table l)))
      (sees : Held → List Call → List P) (roleSees : Held → List Asked → List P)
      (see-is : (m : Held) (l : List Asked) → roleSees m l ≡ stayed table l (sees m (granted_calls table l))) where
    seen_after_lem : sees N₀ A ≡ rules (entries s B) A → roleSees N after ≡ roleRules (entries s B) after
    seen_after_lem e =
        see-is N after
        ∙ ap (λ (n : Held). stayed table after (sees n A)) n_is
        ∙ ap (stayed table after) e
        ∙ sym (rule-is (entries s B) after)

    seen_first_lem : sees (built_on s first) (B ++ A) ≡ rules [] (B ++ A) → roleSees (built_on s first) (before ++ after) ≡ roleRules [] (before ++ after)
    seen_first_lem e =
        see-is (built_on s first) (before ++ after)
        ∙ ap (λ (cs : List Call). stayed table (before ++ after) (sees (built_on s first) cs)) both
        ∙ ap (stayed table (before ++ after)) e
        ∙ ap (λ (cs : List Call). stayed table (before ++ after) (rules [] cs)) (sym both)
        ∙ sym (rule-is [] (before ++ after))

  pub record Carried : Type 1 where
    pub first_is : M ≡ M₀
    pub second_is : N ≡ N₀
    pub saves : role_saved_to table saver M out ≡ saved_to M₀ out
    pub text : role_text_in table saver M out ≡ text_in M₀ out
    pub restores : restore_by table restorer (role_text_in table saver M out) s.codes second ≡ restore.restore_of (text_in M₀ out) s.codes second
    pub same_text : (last : List ℕ) → saved_to (runs N₀ A) last ≡ saved_to (runs (built_on s first) (B ++ A)) last
        → (role : ℕ) → role_saved_to table role (roleRuns N after) last ≡ role_saved_to table role (roleRuns (built_on s first) (before ++ after)) last
    pub seen_after : {P : Type 0} (rules : List Entry → List Call → List P) (roleRules : List Entry → List Asked → List P)
        → ((es : List Entry) (l : List Asked) → roleRules es l ≡ stayed table l (rules es (granted_calls table l)))
        → (sees : Held → List Call → List P) (roleSees : Held → List Asked → List P)
        → ((m : Held) (l : List Asked) → roleSees m l ≡ stayed table l (sees m (granted_calls table l)))
        → sees N₀ A ≡ rules (entries s B) A → roleSees N after ≡ roleRules (entries s B) after
    pub seen_first : {P : Type 0} (rules : List Entry → List Call → List P) (roleRules : List Entry → List Asked → List P)
        → ((es : List Entry) (l : List Asked) → roleRules es l ≡ stayed table l (rules es (granted_calls table l)))
        → (sees : Held → List Call → List P) (roleSees : Held → List Asked → List P)
        → ((m : Held) (l : List Asked) → roleSees m l ≡ stayed table l (sees m (granted_calls table l)))
        → sees (built_on s first) (B ++ A) ≡ rules [] (B ++ A) → roleSees (built_on s first) (before ++ after) ≡ roleRules [] (before ++ after)

  pub carried : Carried
  carried = record {
    first_is = m_is;
    second_is = n_is;
    saves = saved;
    text = text_is;
    restores = restored;
    same_text = same_text_lem;
    seen_after = λ rules roleRules d sees roleSees e. seen_after_lem rules roleRules d sees roleSees e;
    seen_first = λ rules roleRules d sees roleSees e. seen_first_lem rules roleRules d sees roleSees e;
  }

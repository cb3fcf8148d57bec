-- Why a journal that owns its arrays refuses, by why it was refused over them.
use Rattle.std.proofs.Common.{◌≡◌, ◌<◌, ◌≤◌, ◌⊎◌, ◌∙◌, ℕ, true, List, length, take, subst, inl, inr, arith}
use Rattle.std.proofs.lemmas.List.{take_all}
use Rattle.std.proofs.lemmas.List.Elements.{All-take}
use Rattle.journal.specs.declared.refusal.Refusal.{Refusal}
use Rattle.journal.specs.declared.refusal.Refusal.TheVariants.{UnknownTransaction, Forbidden, NoSuchPage, NoSuchSlot, Held, TooManyTransactions, NoNumber, PageAhead, BadImage, NoFrameRoom, NoPendingRoom, BadArrays, HasMaster, LogFull, NoResource}
use Rattle.journal.specs.declared.image.Image.{Image}
use Rattle.journal.specs.declared.entries.Head.{Head}
use Rattle.journal.specs.declared.entries.TransactionEntry.{TransactionEntry}
use Rattle.journal.specs.declared.entries.PendingEntry.{PendingEntry}
use Rattle.journal.specs.Runs.{Run}
use Rattle.journal.specs.Arrays.{IsValid, AllLive, is_live}
use Rattle.page.specs.Store.{StoreContent}
use Rattle.page.specs.declared.profile.TheConstants.{TRANSACTIONS}
use Rattle.log_laws.specs.declared.start.LogStart.{LogStart}
use Rattle.log_laws.specs.Records.{LogContent, history, first}
use Rattle.journal.specs.Refusals.{IsNotRoom, UpdateRefused, BeginRefused, OwnUpdateRefused, OwnBeginRefused}
use Rattle.journal.specs.Opened.{NewRefused, OpenRefused, AreTooMany, OwnNewRefused, OwnOpenRefused, OpenRefusedFor}

pub own_update : (run : Run) (tx page slot : ℕ) (after : Image) (size room : ℕ) (head : Head) (ts : List TransactionEntry) (ps : List PendingEntry) (e : Refusal) → IsValid after
    → (head.pending ≡ length ps → AllLive (take head.transactions ts) ps → ⊥) → IsNotRoom e → UpdateRefused run tx page slot after size room head ts ps e → OwnUpdateRefused run tx page slot head e
own_update run tx page slot after size room head ts ps UnknownTransaction valid never enough h = h
own_update run tx page slot after size room head ts ps (Forbidden state) valid never enough h = h
own_update run tx page slot after size room head ts ps NoSuchPage valid never enough h = h
own_update run tx page slot after size room head ts ps NoSuchSlot valid never enough h = h
own_update run tx page slot after size room head ts ps (Held other) valid never enough h = h
own_update run tx page slot after size room head ts ps BadImage valid never enough h =
    elim valid [
      | inl m ↦ absurd (omega (arith, m, h.0))
      | inr m ↦ absurd (h.1 m)
    ]
own_update run tx page slot after size room head ts ps (NoFrameRoom wanted) valid never enough h = absurd enough
own_update run tx page slot after size room head ts ps NoPendingRoom valid never enough h = absurd (never h.0 h.1)
own_update run tx page slot after size room head ts ps LogFull valid never enough h = h
own_update run tx page slot after size room head ts ps NoResource valid never enough h = absurd h
own_update run tx page slot after size room head ts ps e valid never enough h = absurd h

-- an array that was made longer where all of it is needed is not full
pub never_full : (held : ℕ) (es : List TransactionEntry) (before after : List PendingEntry) → held ≤ length before → take (length before) after ≡ take (length before) before
    → (held < length after) ⊎ (AllLive es before → ⊥) → held ≡ length after → AllLive es after → ⊥
never_full held es before after room same made full live =
    elim made [
      | inl m ↦ omega (arith, m, full)
      | inr m ↦ m (subst (AllLive es) (same ∙ take_all (length before) before (omega arith)) (All-take (λ p. is_live es p ≡ true) (length before) after live))
    ]

pub own_begin : (head : Head) (room : ℕ) (e : Refusal) → room ≡ TRANSACTIONS → BeginRefused head room e → OwnBeginRefused head e
own_begin head room TooManyTransactions is h =
    elim h [
      | inl m ↦ m
      | inr m ↦ omega (arith, m, is)
    ]
own_begin head room NoNumber is h = h
own_begin head room LogFull is h = h
own_begin head room e is h = absurd h

pub own_new : (begins : LogStart) (store : StoreContent) (room : ℕ) (e : Refusal) → room ≡ length store.pages → NewRefused begins store room e → OwnNewRefused begins store e
own_new begins store room BadArrays is h = absurd (h is)
own_new begins store room HasMaster is h = h
own_new begins store room LogFull is h = h
own_new begins store room PageAhead is h = h
own_new begins store room e is h = absurd h

pub own_open : (log : LogContent) (store : StoreContent) (transactions pages pending : ℕ) (e : Refusal) → transactions ≡ TRANSACTIONS → pages ≡ length store.pages → OpenRefused log store transactions pages pending e → OwnOpenRefused log store pending e
own_open log store transactions pages pending BadArrays t p h = absurd (h p)
own_open log store transactions pages pending TooManyTransactions t p h = subst (λ n. (lsn : ℕ) × AreTooMany (first lsn (history log)) n) t h
own_open log store transactions pages pending NoPendingRoom t p h = h
own_open log store transactions pages pending NoNumber t p h = h
own_open log store transactions pages pending LogFull t p h = h
own_open log store transactions pages pending e t p h = absurd h

pub open_for : (log : LogContent) (store : StoreContent) (pending : ℕ) (e : Refusal) → OwnOpenRefused log store pending e → OpenRefusedFor log store e
open_for log store pending BadArrays h = absurd h
open_for log store pending TooManyTransactions h = (pending, h)
open_for log store pending NoPendingRoom h = (pending, h)
open_for log store pending NoNumber h = (pending, h)
open_for log store pending LogFull h = (pending, h)
open_for log store pending NoResource h = h
open_for log store pending e h = absurd h

-- Names for the definitions that a run computes with: who unfolds `everything` unfolds those of a run of the program, who unfolds `worked` those of a worked session with two effects.
-- Those that only a secant step comes to are not among them. Assumes nothing.
use lib.Ieee as Ieee
use Rattle.float64.specs.Pick as Pick
use Rattle.float64.specs.Float64 as Float64
use Rattle.float64.specs.Answer as Float64Answer
use Rattle.libm.specs.Log as Log
use Rattle.libm.specs.Exp as Exp
use Rattle.matrix.specs.Matrix as Matrix
use Rattle.likelihood.specs.RowTerms as RowTerms
use Rattle.likelihood.specs.Row2 as Row2
use Rattle.mode.specs.Rules as Rules
use Rattle.mode_2d.specs.Rules as Rules2
use Rattle.state_words.specs.SearchWords as SearchWords
use Rattle.state_words.specs.SearchWords2 as SearchWords2
use Rattle.cache.specs.Cache as Cache
use Rattle.population.specs.Kept as Kept
use Rattle.work.specs.Work as Work
use Rattle.words.specs.Words as Words
use Rattle.subject.specs.Reply as Reply
use Rattle.subject.specs.Subject as Subject
use Rattle.subject.specs.Observations as Observations
use Rattle.setup.specs.Admission as Admission
use Rattle.search.specs.Subjects as Subjects
use Rattle.machine.specs.Machine as Machine
use Rattle.population.specs.Population as Population
use Rattle.session.specs.Session as Session
use Rattle.session.specs.Calls as Calls
use Rattle.state_words.specs.SessionWords as SessionWords
use Rattle.host_calls.specs.Hosting as Hosting
use Rattle.program_calls.specs.Recorded as Recorded
use Rattle.focei_text.specs.Writing as Writing
use Rattle.focei_records.specs.Records as Records
use Rattle.focei_text.specs.Report as Report
use Rattle.focei_fit.specs.Output as Output
use Rattle.test_marked.specs.Examples as Examples
use Rattle.test_marked.specs.Session2 as Session2

pub data Computed : Type 0 where
  computed : Computed

-- binary64, and what the definitions make of it
unfoldable pub floats : Computed
unfolding Pick.pick Float64.abs Float64.max Float64.clamp Float64Answer.through Log.remainder Log.log_around Log.log_of_word Log.log Exp.exp_primary Exp.power_of_two Exp.exp_around Exp.multiple Exp.exp_within
    Exp.exp Matrix.determinant Matrix.inverse Matrix.has_nonfinite_entry Matrix.inverse_positive Ieee.of_bits Ieee.to_bits Ieee.of_int Ieee.to_signed Ieee.add Ieee.sub Ieee.mul Ieee.div Ieee.neg Ieee.lt
    Ieee.le Ieee.ne
floats = computed

-- a row's terms, and the search with one effect
unfoldable pub searches : Computed
unfolding RowTerms.terms_at RowTerms.finite_terms RowTerms.row_terms Rules.eta_tolerance Rules.grid_point Rules.settled Rules.is_above Rules.is_under Rules.is_closer Rules.request_at Rules.first_score
    Rules.fell Rules.screened Rules.first_stage Rules.entered Rules.chosen Rules.advance_at Rules.start
searches = computed

-- kept evaluations, work words and results
unfoldable pub words : Computed
unfolding Cache.part Cache.hash Cache.head_of Cache.chain Cache.bits Cache.has_bit Cache.entry_place Cache.link_place Cache.row_place Cache.latest_of Cache.filter_of Cache.link_of Cache.bits_of Cache.is_room
    Cache.walk Cache.find Cache.raised Cache.evict Cache.put_ring Cache.entry_words Cache.with_bit Cache.written Cache.is_kept Cache.placed Cache.insert Kept.recall_at Kept.order_rows Words.zeros Work.block
    Work.copy_words Work.copy_block Work.move_rows Work.is_same_row Work.same_from Work.is_same_grid Work.result_written Work.fitted_at Work.fitted_row Work.fitted_from Work.fitted_written
words = computed

-- a subject's evaluation
unfoldable pub evaluations : Computed
unfolding Reply.row_at Reply.column Reply.side Reply.prediction_row Reply.written Subject.individual Subject.is_no_individual Subject.individual_values Subject.begin Subject.at_observation
    Subject.additive_of Subject.with_terms Subject.add_row Subject.f_eta Subject.add_row_at Subject.add_at Subject.add_to Subject.add_after Subject.add_observation Subject.has_nonfinite_sum Subject.finish
    Observations.is_no_deviation Observations.is_sound Observations.next_place Observations.check_at Observations.check_observation
evaluations = computed

-- setup, new objective and reply
unfoldable pub sessions : Computed
unfolding Admission.is_beyond Admission.count_from Admission.count_observations Admission.is_cohort Admission.is_no_variance Admission.is_no_omega Admission.is_no_override Admission.is_no_tolerance
    Admission.is_no_shape Admission.is_short Admission.roomy Admission.admitted Admission.checks_of Admission.checks Admission.with_parameters Subjects.fit_with Subjects.fit_of Subjects.settings
    Subjects.wanted1 Subjects.wanted_by Subjects.key1 Subjects.key_of Subjects.terms_of Subjects.conditional1 Subjects.grid_sources Subjects.sources_at Subjects.sources1 Subjects.with_search
    Subjects.advance1 Subjects.advance_by Subjects.idle Subjects.awaiting Subjects.refused_by Subjects.counted Subjects.ask_for Subjects.ask Subjects.is_over Subjects.closed1 Subjects.closed_by
    Subjects.first_search Subjects.begin_subject Subjects.finished Subjects.objective_of
    Machine.onward Machine.loop Machine.call Population.rows_of Population.warm_of Population.warm_stored Population.take Population.answered
    Population.at_point Population.next_subject Population.closing Population.at_mode Population.served_by Population.served Population.is_over Population.turned Population.moved Population.turn
    Population.receive Session.count_within Session.search_within Session.is_placed Session.is_standing Session.when_admitted Session.begun Session.over Session.replied Session.held_by Session.turn_held
    Session.admitted Session.enter_objective Session.at_wanted Session.when_awaited Session.answered Session.enter_reply Session.enter Calls.opening Calls.opened_by Calls.shrinkage Recorded.observation_in
    Recorded.observations_from Recorded.observations_of
sessions = computed

-- from bytes to bytes
unfoldable pub programs : Computed
unfolding Writing.glyph Writing.hex_from Writing.hexadecimal Writing.digits Writing.decimal Records.subject_at Records.reserved_at Records.float_at Records.cohort_from Records.cohort Records.count_from
    Records.counts_from Records.counts Records.observation_at Records.observations_from Records.observations Records.row_at Records.replied_from Records.reply Report.fields Report.line Report.subject_field
    Report.observation_field Report.refusal_line Report.objective_line Report.subject_line Report.fitted_line Report.shrinkage_line Report.subject_lines Report.fitted_lines Report.all_fitted Report.subjects_of
    Report.finished Output.settings Output.first_parameters Output.begun Output.when_asked Output.replied Output.play Output.ended Output.end_of Output.when_opened Output.fitted Output.lent
    Output.when_records Output.output Examples.bytes Examples.little Examples.record_of Examples.replied Examples.play Examples.when_opened Examples.fitted Examples.when_records Examples.output_with
    Examples.settings_with Examples.example Examples.example_text Examples.far
programs = computed

unfoldable pub everything : Computed
unfolding floats searches words evaluations sessions programs
everything = computed

-- two effects: a row's terms, the search, and what it is to a session
unfoldable pub two_effects : Computed
unfolding Ieee.eq Ieee.is_nan Matrix.sum Matrix.product Matrix.dot Row2.row_variance Row2.scaled_row Row2.add_nll Row2.add_score Row2.add_information Subject.with_row Subject.add_row2 Rules2.max_abs Rules2.is_same
    Rules2.prior_score Rules2.joint Rules2.penalised_score Rules2.norm Rules2.curvature Rules2.step_by Rules2.scale Rules2.reduced Rules2.trial_point Rules2.decrease Rules2.is_passed_over
    Rules2.next_reduction Rules2.is_taken Rules2.start_point Rules2.is_unresolved Rules2.is_far Rules2.better Rules2.between Rules2.trying Rules2.finish Rules2.try_from Rules2.descend_by Rules2.descend
    Rules2.begin_round Rules2.take Rules2.leave Rules2.request_at Rules2.advance_at Rules2.start Subjects.fit_by Subjects.fit2 Subjects.settings2 Subjects.wanted2 Subjects.key2 Subjects.conditional2
    Subjects.current_at Subjects.current_source Subjects.is_new_best Subjects.population_at Subjects.population_source Subjects.sources2 Subjects.advance2 Subjects.closed_with Subjects.closed2
    Session.search_within2
two_effects = computed

-- kept evaluations that answer
unfoldable pub hits : Computed
unfolding Cache.key_at Cache.terms_at Cache.row_at Cache.same_key Cache.is_same Cache.is_at Cache.terms_of Cache.copy_from Cache.rows_to Cache.copy_run Cache.copied Subjects.sums_of
hits = computed

-- a host's own words
unfoldable pub hosts : Computed
unfolding SearchWords.words_of SearchWords.stage_word SearchWords.fall_word SearchWords.saved SearchWords.stage_of SearchWords.conditional_at SearchWords.search_of SearchWords.loaded
    SearchWords2.words_of SearchWords2.stage_word SearchWords2.saved SearchWords2.is_no_stage SearchWords2.stage_of SearchWords2.pair_at SearchWords2.conditional_at SearchWords2.search_of SearchWords2.loaded_lent SearchWords2.loaded
    SessionWords.additive_at SessionWords.parameters_at SessionWords.progress_at SessionWords.order_at SessionWords.state_at SessionWords.loaded_search SessionWords.with_search
    SessionWords.loaded_state SessionWords.flag SessionWords.objective_words SessionWords.progress_words SessionWords.order_words SessionWords.search_words SessionWords.state_words
    SessionWords.put_from SessionWords.saved_state
    Hosting.place_words Hosting.answer_of Hosting.answered Hosting.number_of Hosting.is_unaltered Hosting.told Hosting.opened_to Hosting.opened Hosting.with_state Hosting.open_with Hosting.setup_over
    Hosting.call_over Session2.setup_with Session2.parameters Session2.observations Session2.first_value Session2.steep Session2.seen Session2.opened Session2.after Session2.replies Session2.objectives
    Session2.session Session2.to_mode Session2.found Session2.refused_after Session2.to_bound
hosts = computed

unfoldable pub worked : Computed
unfolding floats searches words evaluations sessions two_effects hits hosts
worked = computed
